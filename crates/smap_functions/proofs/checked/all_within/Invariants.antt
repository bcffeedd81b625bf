use Rattle.std.specs.List.{All}
use Rattle.smap_functions.specs.Functions.{IsWithin}
use Rattle.smap_functions.proofs.checked.all_within.Given as goal

abbrev pub invariant-loop-each : goal.invariant-loop-each
invariant-loop-each l = All (IsWithin l.text) l.functions.items
