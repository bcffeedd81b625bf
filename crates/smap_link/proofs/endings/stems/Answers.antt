use Rattle.std.proofs.Common.{◌≡◌, ◌∙◌, ◌<◌, ℕ, List, Bor, [], ap, map, length, get_or, arith}
use Rattle.std.proofs.lemmas.List.{length-map}
use Rattle.smap_link.specs.Ends.{stem}
use Rattle.smap_link.proofs.EndingLemmas.{pushed_items}
use Rattle.smap_link.proofs.TableLemmas.{mapped_at, read_at}
use Rattle.smap_link.proofs.endings.stems.Goals as goal

pub loop-i-preserved : goal.loop-i-preserved
loop-i-preserved c =
    let names = map {A = Bor (List ℕ)} {B = List ℕ} (λ n. n.now) c.args.names.now in
    let i = c.loop-i.i in
    let some : i < length names = simp length-map (omega (arith, c.loop-i-test.true)) in
    let in_all : i < length (map stem names) = simp length-map (omega (arith, c.loop-i-test.true)) in
    let one : c.in_ok-stem.stem.items ≡ get_or (map stem names) i [] =
    c.in_ok-stem.ensures.items ∙ c.stem.ensures ∙ ap stem (read_at c.args.names.now i _ c.loop-i-test.true)
    ∙ mapped_at stem names i some in
    pushed_items (map stem names) i c.loop-i.stems.items c.push.new.self.items c.in_ok-stem.stem in_all
    c.in_ok-push.ensures.items one c.loop-i.invariant
