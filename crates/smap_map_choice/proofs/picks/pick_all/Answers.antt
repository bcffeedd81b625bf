use Rattle.std.proofs.Common.{◌≡◌, ◌∙◌, ◌<◌, ◌++◌, ◌∷◌, [], ℕ, List, Bor, ap, sym, subst, get_or, map, length}
use Rattle.std.proofs.Common.{◌≤◌, arith, rules}
use Rattle.std.proofs.lemmas.List.{length-map, take_all}
use Rattle.smap_link.specs.Ends.{script_path, stem}
use Rattle.smap_link.specs.Likeness.{IsMostAlike}
use Rattle.smap_link.specs.declared.likeness.Likeness.{Likeness}
use Rattle.smap_link.specs.declared.likeness.Likeness.TheVariants.{Unlike}
use Rattle.smap_link.proofs.TableLemmas.{mapped_at, read_at}
use Rattle.smap_map_choice.specs.Picks.{ArePicks}
use Rattle.smap_map_choice.proofs.PickLemmas.{one_more_pick}
use Rattle.smap_map_choice.proofs.picks.pick_all.Goals as goal

pub loop-i-preserved : goal.loop-i-preserved
loop-i-preserved c = λ scripts given.
    let now = c.loop-i.invariant scripts given in
    let more : c.push.new.self.items ≡ c.loop-i.picks.items ++ c.in_ok-pick.pick ∷ [] = search rules in
    let names = map {A = Bor (List ℕ)} {B = List ℕ} (λ n. n.now) c.args.names.now in
    let files = map {A = Bor (List ℕ)} {B = List ℕ} (λ n. n.now) c.args.files.now in
    let i = c.loop-i.i in
    let some : i < length names = simp length-map (omega (arith, c.loop-i-test.true)) in
    let in_paths : i < length (map script_path names) = simp length-map (omega (arith, c.loop-i-test.true)) in
    let one = read_at c.args.names.now i _ c.loop-i-test.true in
    let path = ap script_path one ∙ mapped_at script_path names i some in
    let end : c.end_at.result ≡ get_or c.in_ok-ends.ends.items i Unlike =
    c.end_at.ensures ∙ ap (λ (es : List Likeness). get_or es i Unlike) c.deref.ensures.value in
    let is = subst (λ (p : List ℕ). IsMostAlike p (map stem files) c.end_at.result) (sym path)
    (subst (λ (e : Likeness). IsMostAlike (get_or (map script_path names) i []) (map stem files) e) (sym end)
    (c.in_ok-ends.ensures.1 i in_paths)) in (
      c.in_ok-pick.ensures.table scripts now.0,
      one_more_pick c.args.ignore_query scripts files names i some c.loop-i.picks.items c.push.new.self.items
          c.in_ok-pick.pick more (c.in_ok-pick.ensures.name ∙ one)
          (c.in_ok-pick.ensures.found scripts files now.0 is) now.1,
    )

pub returns-clause-picks : goal.returns-clause-picks
returns-clause-picks c = λ scripts given.
    let names = map {A = Bor (List ℕ)} {B = List ℕ} (λ n. n.now) c.args.names.now in
    let files = map {A = Bor (List ℕ)} {B = List ℕ} (λ n. n.now) c.args.files.now in
    let ended : length names ≤ c.loop-i.i = simp length-map (omega (arith, c.loop-i-test.false)) in
    subst (λ (ns : List (List ℕ)). ArePicks c.args.ignore_query scripts files ns c.loop-i.picks.items)
    (take_all c.loop-i.i names ended) (c.loop-i.invariant scripts given).1
