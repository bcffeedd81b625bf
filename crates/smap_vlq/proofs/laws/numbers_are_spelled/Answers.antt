use Rattle.smap_vlq.proofs.NumberLemmas.{number_is_spelled, number_fault_is_decided}
use Rattle.smap_vlq.proofs.laws.numbers_are_spelled.Goals as goal

pub returns-clause-number : goal.returns-clause-number
returns-clause-number c = number_is_spelled

pub returns-clause-fault : goal.returns-clause-fault
returns-clause-fault c = number_fault_is_decided
