use Rattle.smap_mappings.proofs.LawLemmas.{text_reads_back}
use Rattle.smap_tool.proofs.LawLemmas.{decides, stays}
use Rattle.smap_tool.proofs.laws.respell_decides_equality.Goals as goal

pub returns-clause-decides : goal.returns-clause-decides
returns-clause-decides c = decides text_reads_back

pub returns-clause-stays : goal.returns-clause-stays
returns-clause-stays c = stays text_reads_back
