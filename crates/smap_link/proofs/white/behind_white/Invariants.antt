use Rattle.std.proofs.Common.{◌≡◌, drop}
use Rattle.smap_link.specs.White as spec
use Rattle.smap_link.proofs.white.behind_white.Given as goal

abbrev pub invariant-loop-i : goal.invariant-loop-i
invariant-loop-i l = spec.behind_white 0 l.text ≡ spec.behind_white l.left (drop l.i l.text)
