use Rattle.std.proofs.Common.{◌≡◌, length, take}
use Rattle.smap_record.specs.Steps.{AreFlags}
use Rattle.smap_record.proofs.flat.sources.ignored_flags.Given as goal

-- those that were gone through are flagged
abbrev pub invariant-loop-k : goal.invariant-loop-k
invariant-loop-k l = record {
  count : length l.flags.items ≡ length l.shape.sources;
  flags : AreFlags (length l.shape.sources) (take l.k l.shape.ignored) l.flags.items;
}
