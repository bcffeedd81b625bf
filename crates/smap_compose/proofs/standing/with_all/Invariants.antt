use Rattle.std.proofs.Common.{◌≡◌, ◌++◌, map, take}
use Rattle.smap_record.specs.Record.{record_of}
use Rattle.smap_compose.specs.Composing.{under}
use Rattle.smap_compose.proofs.standing.with_all.Given as goal

-- as many as were gone through are listed
abbrev pub invariant-loop-i : goal.invariant-loop-i
invariant-loop-i l = l.sources ≡ l.fn.before ++ map (under l.ignored) (take l.i (record_of l.map).sources)
