use Rattle.std.proofs.Common.{◌-◌, ◌≤◌, length}
use Rattle.smap_mappings.proofs.ReaderLemmas.{Follows}
use Rattle.smap_mappings.proofs.reader.MappingsReader.read.Given as goal

abbrev pub invariant-loop-place : goal.invariant-loop-place
invariant-loop-place l = (l.place ≤ length l.piece) × Follows l.fn.self l.self l.piece l.place

abbrev pub decreases-loop-place : goal.decreases-loop-place
decreases-loop-place l = length l.piece - l.place
