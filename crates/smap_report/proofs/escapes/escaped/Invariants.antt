use Rattle.std.proofs.Common.{string_bytes, ◌≡◌}
use Rattle.std.specs.List.{flat_map}
use Rattle.smap_report.specs.Escapes.{escaped_char}
use Rattle.smap_report.proofs.escapes.escaped.Given as goal

abbrev pub invariant-loop-c : goal.invariant-loop-c
invariant-loop-c l = string_bytes l.made ≡ flat_map (escaped_char l.place) l.yielded
