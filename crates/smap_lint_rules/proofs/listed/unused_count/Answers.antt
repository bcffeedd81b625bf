use Rattle.std.proofs.Common.{false, ◌∙◌}
use Rattle.std.proofs.lemmas.List.{length-replicate}
use Rattle.smap_lint_rules.proofs.MarkLemmas.{no_marks, next_marks, all_at_last, length-marked}
use Rattle.smap_lint_rules.proofs.listed.unused_count.Goals as goal

pub loop-i-init : goal.loop-i-init
loop-i-init c = rw c.in_ok-marks.ensures (
  length-replicate c.name_count.result false ∙ c.name_count.ensures,
  no_marks c.name_count.result,
)

pub loop-i-preserved : goal.loop-i-preserved
loop-i-preserved c = rw (c.mark.ensures, c.name_of.ensures) (
  length-marked c.loop-i.marks.items _ ∙ c.loop-i.invariant.0,
  next_marks c.loop-i.marks.items c.args.map.now.listing.tokens c.loop-i.i c.listed_token.result
      c.listed_token.ensures c.loop-i.invariant.1,
)

pub returns : goal.returns
returns c = rw (c.count_unmarked.ensures, c.deref.ensures.value)
    (all_at_last c.loop-i.marks.items c.args.map.now.listing.tokens _ c.loop-i.i
    (rw c.token_count-i-end.ensures.count at c.loop-i-test.false) c.loop-i.invariant.0 c.loop-i.invariant.1)
