use Rattle.std.proofs.Common.{◌≡◌, ◌+◌, ◌*◌, ◌-◌, ◌++◌, take}
use Rattle.std.specs.List.{flat_map}
use Rattle.smap_repair.specs.Members.{members_in, staying_in_section}
use Rattle.smap_repair.proofs.members.+levels.Given as goal

abbrev pub decreases-add_section : goal.decreases-add_section
decreases-add_section l = 3 * l.levels + 2

abbrev pub decreases-add_map : goal.decreases-add_map
decreases-add_map l = 3 * l.levels + 1

abbrev pub decreases-add_sections : goal.decreases-add_sections
decreases-add_sections l = 3 * l.levels

abbrev pub invariant-add_sections-loop-i : goal.invariant-add_sections-loop-i
invariant-add_sections-loop-i l = members_in l.found.items ≡ members_in l.initial.found.items
    ++ flat_map (staying_in_section (l.levels - 1)) (take l.i l.sections)
