use Rattle.std.proofs.Common.{◌≡◌, map, take}
use Rattle.smap_link.specs.Ends.{script_path}
use Rattle.smap_link.proofs.endings.script_paths.Given as goal

abbrev pub invariant-loop-i : goal.invariant-loop-i
invariant-loop-i l =
    map (λ p. p.items) l.paths.items ≡ take l.i (map script_path (map (λ s. s.now) l.scripts))
