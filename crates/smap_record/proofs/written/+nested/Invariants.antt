use Rattle.std.proofs.Common.{◌≡◌, ◌+◌, ◌-◌, ◌*◌, ◌++◌, map, drop}
use Rattle.std.specs.Prelude.{flat_map}
use Rattle.serde_json.specs.View.{view}
use Rattle.smap_record.specs.Written.{of_section, of_members}
use Rattle.smap_record.proofs.written.+nested.Given as goal

-- sections have one level less
abbrev pub decreases-with_section : goal.decreases-with_section
decreases-with_section l = 3 * l.deeper + 2

abbrev pub decreases-with_sections : goal.decreases-with_sections
decreases-with_sections l = 3 * l.levels

abbrev pub decreases-with_map : goal.decreases-with_map
decreases-with_map l = 3 * l.levels + 1

-- what is added, followed by what is left, is the whole
abbrev pub invariant-with_sections-loop-k : goal.invariant-with_sections-loop-k
invariant-with_sections-loop-k l =
    let own = of_section (8 - (l.levels - 1)) (of_members (l.levels - 1)) in
    let all = map view l.shape.sections in
    l.written ++ flat_map own (drop l.k all) ≡ l.fn.before ++ flat_map own all
