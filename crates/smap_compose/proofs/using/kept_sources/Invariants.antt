use Rattle.std.proofs.Common.{◌≡◌, map, take}
use Rattle.std.specs.List.{range_with_len}
use Rattle.smap_record.specs.Record.{record_of}
use Rattle.smap_compose.specs.Kept.{kept, number_of}
use Rattle.smap_compose.proofs.using.kept_sources.Given as goal

-- those that are used of the sources that were gone through stay
abbrev pub invariant-loop-i : goal.invariant-loop-i
invariant-loop-i l = record {
  sources : l.sources ≡ kept (record_of l.map) (take l.i (record_of l.map).sources);
  numbers : l.numbers.items ≡ map (number_of (record_of l.map)) (range_with_len 0 l.i);
}
