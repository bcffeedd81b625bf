use Rattle.std.proofs.Common.{◌≡◌, ◌∙◌, ◌<◌, ℕ, List, Bor, [], ap, map, length, get_or, arith}
use Rattle.std.proofs.lemmas.List.{length-map}
use Rattle.smap_link.specs.Ends.{script_path}
use Rattle.smap_link.proofs.EndingLemmas.{pushed_items}
use Rattle.smap_link.proofs.TableLemmas.{mapped_at, read_at}
use Rattle.smap_link.proofs.endings.script_paths.Goals as goal

pub loop-i-preserved : goal.loop-i-preserved
loop-i-preserved c =
    let scripts = map {A = Bor (List ℕ)} {B = List ℕ} (λ s. s.now) c.args.scripts.now in
    let i = c.loop-i.i in
    let some : i < length scripts = simp length-map (omega (arith, c.loop-i-test.true)) in
    let in_all : i < length (map script_path scripts) = simp length-map (omega (arith, c.loop-i-test.true)) in
    let one : c.in_ok-path.path.items ≡ get_or (map script_path scripts) i [] =
    c.in_ok-path.ensures ∙ ap script_path (read_at c.args.scripts.now i _ c.loop-i-test.true)
    ∙ mapped_at script_path scripts i some in
    pushed_items (map script_path scripts) i c.loop-i.paths.items c.push.new.self.items c.in_ok-path.path
    in_all c.in_ok-push.ensures.items one c.loop-i.invariant
