use Rattle.std.proofs.Common.{drop, ◌≤◌}
use Rattle.smap_frames.proofs.PlaceLemmas.{IsReadTo}
use Rattle.smap_frames.proofs.frames.place.Given as goal

abbrev pub invariant-loop-digit : goal.invariant-loop-digit
invariant-loop-digit l = record {
  read : IsReadTo l.text l.number (drop l.digit-index l.text);
  fits : l.number ≤ 2147483649;
}
