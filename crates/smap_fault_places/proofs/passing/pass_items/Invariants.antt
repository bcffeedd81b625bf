use Rattle.std.proofs.Common.{◌≡◌, ◌<◌, ℕ, true, length}
use Rattle.smap_fault_places.specs.Contexts.{PassedItems}
use Rattle.smap_fault_places.proofs.passing.pass_items.Given as goal

-- So many items were passed, and where it is said that there are some, there are.
abbrev pub invariant-items : goal.invariant-items
invariant-items l = (n : ℕ) × PassedItems l.depth n l.fn.reader l.reader × (l.some ≡ true → 0 < n)

abbrev pub decreases-items : goal.decreases-items
decreases-items l = length l.reader
