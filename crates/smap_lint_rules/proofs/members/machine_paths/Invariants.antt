use Rattle.std.proofs.Common.{◌≡◌, map, take}
use Rattle.std.specs.List.{flat_map}
use Rattle.serde_json.specs.View.{view}
use Rattle.smap_lint_rules.specs.Members.{machine_paths_of}
use Rattle.smap_lint_rules.proofs.members.machine_paths.Given as goal

abbrev pub invariant-loop-i : goal.invariant-loop-i
invariant-loop-i l = map (λ p. p.now) l.found.items
    ≡ flat_map machine_paths_of (take l.i (map (λ m. view m.now) l.maps))
