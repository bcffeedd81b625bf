use Rattle.smap_record.proofs.DepthLemmas.{map_of_index}
use Rattle.smap_record.proofs.LevelLemmas.{none_below}
use Rattle.smap_record.proofs.laws.sections_by_level.Goals as goal

pub returns-clause-levels : goal.returns-clause-levels
returns-clause-levels c = map_of_index

pub returns-clause-last : goal.returns-clause-last
returns-clause-last c = none_below
