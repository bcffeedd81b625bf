use Rattle.std.proofs.Common.{◌≡◌, ◌+◌, ◌*◌, ◌-◌, map, take}
use Rattle.std.specs.List.{flat_map}
use Rattle.std.specs.Str.{bytes_eq}
use Rattle.indexmap.specs.IndexSet.{insert_all}
use Rattle.serde_json.specs.View.{view}
use Rattle.smap_differences.specs.Drops.{lost_with_section}
use Rattle.smap_differences.proofs.DropLemmas.{texts}
use Rattle.smap_differences.proofs.sections.+levels.Given as goal

abbrev pub decreases-add_section : goal.decreases-add_section
decreases-add_section l = 2 * l.levels + 1

abbrev pub decreases-add_below : goal.decreases-add_below
decreases-add_below l = 2 * l.levels

abbrev pub invariant-add_below-loop-i : goal.invariant-add_below-loop-i
invariant-add_below-loop-i l = texts l.found.keys ≡ insert_all bytes_eq (texts l.initial.found.keys)
    (flat_map (lost_with_section (l.levels - 1)) (take l.i (map view l.sections)))
