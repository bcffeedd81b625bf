use Rattle.std.proofs.Common.{map}
use Rattle.smap_link.specs.Endings.{HasEndings}
use Rattle.smap_link.proofs.endings.endings_of.Given as goal

abbrev pub invariant-loop-i : goal.invariant-loop-i
invariant-loop-i l = HasEndings l.endings (map (λ p. p.items) l.paths) l.i
