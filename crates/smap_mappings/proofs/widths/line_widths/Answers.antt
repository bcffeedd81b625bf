use Rattle.std.proofs.Common.{arith}
use Rattle.smap_mappings.proofs.WidthLemmas.{wider_lines}
use Rattle.smap_mappings.proofs.widths.line_widths.Goals as goal

pub loop-i-init : goal.loop-i-init
loop-i-init c = (rw c.new-widths.ensures.items (wider_lines c.args.text.now), omega arith)
