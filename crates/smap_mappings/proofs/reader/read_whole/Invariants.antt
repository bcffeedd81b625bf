use Rattle.std.proofs.Common.{◌-◌, ◌≤◌, ◌++◌, [], List, ℕ, length, take}
use Rattle.std.specs.Prelude.{vec_capacity}
use Rattle.smap_mappings.specs.Pieces.{IsReadTo}
use Rattle.smap_mappings.proofs.reader.read_whole.Given as goal

abbrev pub invariant-loop-place : goal.invariant-loop-place
invariant-loop-place l = (l.fn.start ≤ l.place) × (l.place ≤ length l.piece)
    × (vec_capacity l.fn.tokens.list ≤ vec_capacity l.tokens.list)
    × ((text : List ℕ) → IsReadTo l.bounds (text ++ take l.fn.start l.piece) l.fn.tokens.list.items
    l.fn.cursor [] → IsReadTo l.bounds (text ++ take l.place l.piece) l.tokens.list.items l.cursor [])

abbrev pub decreases-loop-place : goal.decreases-loop-place
decreases-loop-place l = length l.piece - l.place
