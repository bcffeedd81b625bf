use Rattle.std.proofs.Common.{◌≡◌, ◌++◌, drop, string_bytes}
use Rattle.smap_differences.specs.Showing.{grouped}
use Rattle.smap_differences.proofs.showing.grouped.Given as goal

abbrev pub invariant-loop-i : goal.invariant-loop-i
invariant-loop-i l = string_bytes l.text ++ grouped (drop l.i l.digits) ≡ grouped l.digits
