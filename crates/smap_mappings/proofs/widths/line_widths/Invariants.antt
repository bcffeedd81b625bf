use Rattle.std.proofs.Common.{◌≡◌, ◌≤◌, ◌*◌, drop}
use Rattle.smap_mappings.specs.Widths.{line_widths, with_last}
use Rattle.smap_mappings.proofs.widths.line_widths.Given as goal

abbrev pub invariant-loop-i : goal.invariant-loop-i
invariant-loop-i l = (with_last l.widths.items l.width (line_widths (drop l.i l.text)) ≡ line_widths l.text)
    × (l.width ≤ 2 * l.i)
