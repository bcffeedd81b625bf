use Rattle.smap_lint_rules.specs.Positions.{is_past_end}
use Rattle.smap_lint_rules.proofs.WalkLemmas.{filter_next}
use Rattle.smap_lint_rules.proofs.positions.count_past_end.Goals as goal

pub loop-i-preserved : goal.loop-i-preserved
loop-i-preserved c = rw (
  filter_next (is_past_end c.args.widths.now) c.args.map.now.listing.tokens c.loop-i.i
      c.listed_token.result c.listed_token.ensures,
  ← c.loop-i.invariant,
  ← c.is_past_end.ensures,
) c.counted-count.ensures
