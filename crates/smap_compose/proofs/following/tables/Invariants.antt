use Rattle.std.proofs.Common.{◌≡◌, map, take}
use Rattle.smap_record.specs.Record.{record_of}
use Rattle.smap_trace.specs.LineStarts.{line_starts}
use Rattle.smap_compose.proofs.following.tables.Given as goal

-- those that were gone through have their tables
abbrev pub invariant-loop-i : goal.invariant-loop-i
invariant-loop-i g l =
    l.tables.items ≡ map (λ h. line_starts (record_of (g.H.HasMap.held_map h)).mappings) (take l.i l.inner)
