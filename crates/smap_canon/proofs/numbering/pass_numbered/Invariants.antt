use Rattle.std.proofs.Common.{map, take}
use Rattle.smap_record.specs.Record.{record_of}
use Rattle.smap_record.specs.Fitting.{names_used}
use Rattle.smap_canon.specs.Canonical.{token_of}
use Rattle.smap_canon.proofs.numbering.pass_numbered.Given as goal

abbrev pub invariant-loop-i : goal.invariant-loop-i
invariant-loop-i g l =
    let r = record_of l.map in
    g.S.TokenSink.was_passed l.sink (map (token_of r.sources (names_used r.mappings)) (take l.i r.mappings))
