use Rattle.std.proofs.Common.{◌≡◌, drop}
use Rattle.smap_mappings.specs.Widths.{has_separator}
use Rattle.smap_mappings.proofs.widths.has_separator.Given as goal

abbrev pub invariant-loop-i : goal.invariant-loop-i
invariant-loop-i l = has_separator l.text ≡ has_separator (drop l.i l.text)
