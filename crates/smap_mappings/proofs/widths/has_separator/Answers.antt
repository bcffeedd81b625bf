use Rattle.std.proofs.Common.{rules, ◌∙◌, sym}
use Rattle.smap_mappings.proofs.WidthLemmas.{separator_later}
use Rattle.smap_mappings.proofs.widths.has_separator.Goals as goal

pub loop-i-preserved : goal.loop-i-preserved
loop-i-preserved c = c.loop-i.invariant ∙ separator_later c.args.text.now c.loop-i.i (search rules)
    (search (rules, sym c.starts_separator.ensures))
