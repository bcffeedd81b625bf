use Rattle.std.proofs.Common.{rules}
use Rattle.smap_mappings.proofs.WidthLemmas.{at_end, before_end}
use Rattle.smap_mappings.proofs.widths.widened.Goals as goal

pub returns-then-not-ends_line-clause-widths : goal.returns-then-not-ends_line-clause-widths
returns-then-not-ends_line-clause-widths c = search (rules, before_end)

pub returns-clause-widths : goal.returns-clause-widths
returns-clause-widths c = search (rules, at_end)
