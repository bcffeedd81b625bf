use Rattle.smap_vlq.proofs.ShortestLemmas.{has_one_shortest}
use Rattle.smap_vlq.proofs.PrefixLemmas.{none_begins_another}
use Rattle.smap_vlq.proofs.laws.unique_shortest_spelling.Goals as goal

pub returns-clause-one_shortest : goal.returns-clause-one_shortest
returns-clause-one_shortest c = has_one_shortest

pub returns-clause-none_begins_another : goal.returns-clause-none_begins_another
returns-clause-none_begins_another c = none_begins_another
