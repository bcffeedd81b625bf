use Rattle.std.proofs.Common.{string_bytes, ◌≡◌}
use Rattle.smap_system.specs.Printing.{safe_text}
use Rattle.smap_system.proofs.printing.safe_text.Given as goal

abbrev pub invariant-loop-c : goal.invariant-loop-c
invariant-loop-c l = string_bytes l.made ≡ safe_text l.yielded
