use Rattle.std.proofs.Common.{◌≡◌, drop}
use Rattle.smap_link.specs.Names as spec
use Rattle.smap_link.proofs.names.is_below.Given as goal

abbrev pub invariant-loop-i : goal.invariant-loop-i
invariant-loop-i l = spec.is_below_from 0 l.name ≡ spec.is_below_from l.dots (drop l.i l.name)
