use Rattle.std.proofs.Common.{◌≤◌, subst}
use Rattle.smap_functions.specs.Nested.{Pairwise}
use Rattle.smap_functions.proofs.NestedLemmas.{Pairwise-pop, kept_behind}
use Rattle.smap_functions.proofs.checked.open_end.Goals as goal

pub loop-end-preserved : goal.loop-end-preserved
loop-end-preserved c = record {
  falling = (Pairwise-pop (λ d e. e ≤ d) c.pop.new.self.items c.in-Some.end
      (subst (λ u. Pairwise (λ d e. e ≤ d) u) c.in-Some.ensures.items c.loop-end.invariant.falling)).0;
  kept = kept_behind c.args.place c.in-Some.end c.args.ends.now.items c.loop-end.ends.items
      c.pop.new.self.items c.in-Some.ensures.items c.if-place-end.false c.loop-end.invariant.kept;
}
