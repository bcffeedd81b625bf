use Rattle.std.proofs.Common.{◌≡◌, ◌≤◌, ◌-◌, ◌++◌, length, take, drop}
use Rattle.serde_json.specs.View.{view}
use Rattle.smap_fault_places.specs.Paths.{there as steps_there}
use Rattle.smap_fault_places.proofs.walk.there.Given as goal

-- The steps that were taken, and then those that are there from the value on, are those that are there.
abbrev pub invariant-steps : goal.invariant-steps
invariant-steps l = (l.len ≤ length l.fn.path)
    × (take l.len l.fn.path ++ steps_there (drop l.len l.fn.path) (view l.value)
    ≡ steps_there l.fn.path (view l.fn.tree))

abbrev pub decreases-steps : goal.decreases-steps
decreases-steps l = length l.fn.path - l.len
