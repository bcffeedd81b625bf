use Rattle.std.proofs.Common.{◌≡◌, map, take}
use Rattle.smap_link.specs.Ends.{stem}
use Rattle.smap_link.proofs.endings.stems.Given as goal

abbrev pub invariant-loop-i : goal.invariant-loop-i
invariant-loop-i l = map (λ p. p.items) l.stems.items ≡ take l.i (map stem (map (λ n. n.now) l.names))
