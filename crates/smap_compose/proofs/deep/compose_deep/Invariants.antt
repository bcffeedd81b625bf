use Rattle.std.proofs.Common.{◌≡◌, map}
use Rattle.smap_record.specs.Record.{record_of}
use Rattle.smap_compose.specs.Composing.{Maps}
use Rattle.smap_compose.specs.Deep.{AllLead, composed, latest, levels}
use Rattle.smap_compose.proofs.deep.compose_deep.Given as goal

-- the maps are composed so many levels deep
abbrev pub invariant-loop-level : goal.invariant-loop-level
invariant-loop-level l = record {
  deep : (find : Maps) → AllLead l.maps find l.leads
      → map record_of (latest l.maps l.closed) ≡ map (λ x. composed l.level find (record_of x)) l.maps;
  levels : map record_of (latest l.maps l.closed) ≡ levels l.maps l.leads l.level;
}
