use Rattle.std.proofs.Common.{◌≡◌, ◌++◌, drop, map, not}
use Rattle.smap_map_files.specs.Lists.{has_own_map, texts}
use Rattle.smap_map_files.proofs.folders.unmapped.Given as goal

-- those that were gone through, and those to come
abbrev pub invariant-loop-i : goal.invariant-loop-i
invariant-loop-i l = l.flags.items ++ map (λ name. not (has_own_map (texts l.names) name)) (drop l.i
    (texts l.names))
    ≡ map (λ name. not (has_own_map (texts l.names) name)) (texts l.names)
