use Rattle.std.proofs.Common.{◌≡◌, drop, map}
use Rattle.smap_command_line.specs.Values.{bad_among}
use Rattle.smap_command_line.proofs.values.bad_among.Given as goal

abbrev pub invariant-loop-i : goal.invariant-loop-i
invariant-loop-i l =
    bad_among l.value (map (λ s. s.now) (drop l.i l.texts))
    ≡ bad_among l.value (map (λ s. s.now) l.texts)
