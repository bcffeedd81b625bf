use Rattle.smap_record.specs.Record.{record_of}
use Rattle.smap_record.specs.Views.{mapping_of_view}
use Rattle.smap_trace.proofs.LookupLemmas.{falls_at}
use Rattle.smap_trace.proofs.lookups.lookup.Goals as goal

pub returns-in-Some-clause-found : goal.returns-in-Some-clause-found
returns-in-Some-clause-found c =
    falls_at (record_of c.args.map.now).mappings c.args.line c.args.column c.in-Some.i
    (mapping_of_view c.token.result) (rw c.in-Some.is at c.find-found.ensures.found) c.token.ensures.mapping
