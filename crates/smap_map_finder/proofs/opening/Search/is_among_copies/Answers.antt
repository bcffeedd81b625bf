use Rattle.std.proofs.Common.{◌≡◌, ◌∙◌, ◌<◌, [], Bor, List, ap, arith, length, map, rules, set, true, ℕ}
use Rattle.std.proofs.lemmas.List.{length-map, map-set}
use Rattle.smap_map_choice.specs.declared.picks.Found.TheVariants.{ByEnd}
use Rattle.smap_map_finder.specs.Choice.{IsFoundIn}
use Rattle.smap_map_finder.proofs.CopyLemmas.{one_out}
use Rattle.smap_map_finder.proofs.opening.Search.is_among_copies.Goals as goal

pub returns-then-is_found-clause-copies : goal.returns-then-is_found-clause-copies
returns-then-is_found-clause-copies g c = λ _.
    let w = c.args.self.now.wanted.now in
    let now = λ (f : Bor (List ℕ)). f.now in
    let seen : IsFoundIn w (map now c.deref.result.now) c.args.name.now (ByEnd c.args.file) =
    rw (c.is_found.ensures c.if-is_found.true) at c.in_ok-found.ensures.found in
    record {
      files = map now c.loop.left.items;
      without = c.loop.invariant.0;
      is_found = rw c.deref.ensures.value at seen;
    }

pub loop-preserved : goal.loop-preserved
loop-preserved g c =
    let held = g.D.Disk.held c.args.self.now.host.now.disk.now in
    let w = c.args.self.now.wanted.now in
    let now = λ (f : Bor (List ℕ)). f.now in
    let left = c.loop.left.items in
    let other = c.in-Some.other in
    let within : other < length left = search rules in
    let lt : other < length (map now left) = simp length-map (omega (arith, within)) in
    let are : c.in_ok-is_one.is_one ≡ true = grind (arith, c.if-not-is_one.false) in
    let none : c.as_slice.result.now ≡ [] = search rules in (
      one_out held w c.args.name.now c.args.file other (map now left) _ lt c.loop.invariant.0
          (c.in_ok-is_one.ensures.one are)
          (map-set now left other c.as_slice.result ∙ ap (λ (n : List ℕ). set (map now left) other n) none),
      c.in_ok-is_one.ensures.over,
    )
