use Rattle.smap_record.proofs.OneLevelLemmas.{old_texts_kept}
use Rattle.smap_record.proofs.laws.old_texts.Goals as goal

pub returns : goal.returns
returns c = old_texts_kept
