use Rattle.smap_view_page.proofs.EmbeddingLemmas.{none}
use Rattle.smap_view_page.proofs.laws.nothing_ends_an_element.Goals as goal

pub returns : goal.returns
returns c = none
