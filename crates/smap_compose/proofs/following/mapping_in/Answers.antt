use Rattle.smap_trace.proofs.LookupLemmas.{falls_to_is}
use Rattle.smap_compose.proofs.following.mapping_in.Goals as goal

pub returns-clause-mapping : goal.returns-clause-mapping
returns-clause-mapping c = falls_to_is _ c.args.line c.args.column _ c.lookup_in.ensures.found
