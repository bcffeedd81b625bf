use Rattle.std.proofs.Common.{◌≡◌, ◌+◌, ◌*◌, ◌-◌, ◌++◌, map, take}
use Rattle.std.specs.List.{flat_map}
use Rattle.serde_json.specs.View.{view}
use Rattle.smap_lint_rules.specs.Members.{maps_of_section}
use Rattle.smap_lint_rules.proofs.members.+levels.Given as goal

abbrev pub decreases-add_section : goal.decreases-add_section
decreases-add_section l = 2 * l.levels + 1

abbrev pub decreases-add_below : goal.decreases-add_below
decreases-add_below l = 2 * l.levels

abbrev pub invariant-add_below-loop-i : goal.invariant-add_below-loop-i
invariant-add_below-loop-i l = map (λ m. view m.now) l.maps.items ≡ map (λ m. view m.now) l.initial.maps.items
    ++ flat_map (maps_of_section (l.levels - 1)) (take l.i (map view l.sections))
