use Rattle.std.proofs.Common.{◌≡◌, ◌++◌, drop}
use Rattle.smap_mappings.specs.Ends as spec
use Rattle.smap_mappings.proofs.ends.ended.Given as goal

abbrev pub invariant-loop-i : goal.invariant-loop-i
invariant-loop-i l = l.all.items ++ spec.ended l.widths (drop l.i l.tokens) ≡ spec.ended l.widths l.tokens
