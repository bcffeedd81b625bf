use Rattle.std.proofs.Common.{◌≡◌, take}
use Rattle.smap_record.specs.Record.{record_of}
use Rattle.smap_canon.proofs.sameness.same_sources.Given as goal

abbrev pub invariant-loop-i : goal.invariant-loop-i
invariant-loop-i l = take l.i (record_of l.a).sources ≡ take l.i (record_of l.b).sources
