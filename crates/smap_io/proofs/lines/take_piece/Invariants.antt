use Rattle.std.proofs.Common.{◌≤◌, ℕ, List, length}
use Rattle.smap_io.specs.Lines.{HasNoFeed, TakesPiece}
use Rattle.smap_io.proofs.lines.take_piece.Given as goal

-- What is left of the piece, taken from here, is the piece taken from the start.
abbrev pub invariant-lines : goal.invariant-lines
invariant-lines g l = record {
  within : length l.left ≤ length l.piece;
  free : HasNoFeed l.line.items;
  so_far : (rest : List ℕ) (new : _)
      → TakesPiece (g.E.EachLine.takes l.each) l.line.items l.left rest l.so_far new
      → TakesPiece (g.E.EachLine.takes l.each) l.fn.line.items l.piece rest l.fn.so_far new;
}

abbrev pub decreases-lines : goal.decreases-lines
decreases-lines g l = length l.left
