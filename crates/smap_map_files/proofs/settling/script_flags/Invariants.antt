use Rattle.std.proofs.Common.{◌≡◌, ◌++◌, drop, map}
use Rattle.std.specs.List.{zip}
use Rattle.smap_map_files.specs.WantedView.{may_name_map}
use Rattle.smap_map_files.proofs.settling.script_flags.Given as goal

-- those that were gone through, and those to come
abbrev pub invariant-loop-i : goal.invariant-loop-i
invariant-loop-i l = l.flags.items
    ++ map (λ f. may_name_map f.0) (drop l.i (zip (map (λ f. f.items) l.files) l.roots))
    ≡ map (λ f. may_name_map f.0) (zip (map (λ f. f.items) l.files) l.roots)
