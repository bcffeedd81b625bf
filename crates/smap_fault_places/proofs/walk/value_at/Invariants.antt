use Rattle.std.proofs.Common.{◌≡◌, ◌≤◌, drop}
use Rattle.serde_json.specs.Data.{depth}
use Rattle.serde_json.specs.View.{view}
use Rattle.smap_fault_places.specs.Paths.{value_at as data_at}
use Rattle.smap_fault_places.proofs.walk.value_at.Given as goal

-- The steps that are left lead from the value to what the path leads to, and the value nests no deeper than
-- the tree.
abbrev pub invariant-steps : goal.invariant-steps
invariant-steps l = (data_at (drop l.step-index l.fn.path) (view l.value)
    ≡ data_at l.fn.path (view l.fn.tree))
    × (depth (view l.value) ≤ depth (view l.fn.tree))
