use Rattle.smap_mappings.proofs.ArrangementLemmas.{is_arranged, one_arrangement}
use Rattle.smap_mappings.proofs.laws.arrangement.Goals as goal

pub returns : goal.returns
returns c = λ old new. (λ e. rw e (is_arranged old), one_arrangement old new)
