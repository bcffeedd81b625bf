use Rattle.std.proofs.Common.{◌≡◌, map, take}
use Rattle.smap_record.specs.Record.{record_of}
use Rattle.smap_compose.specs.Using.{is_used}
use Rattle.smap_compose.proofs.using.used_sources.Given as goal

-- the sources of the mappings that were gone through are marked
abbrev pub invariant-loop-i : goal.invariant-loop-i
invariant-loop-i l =
    l.used.items ≡ map (is_used (take l.i (record_of l.map).mappings)) (record_of l.map).sources
