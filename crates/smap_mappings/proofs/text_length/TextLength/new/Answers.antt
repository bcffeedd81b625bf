use Rattle.std.proofs.Common.{[], refl}
use Rattle.smap_mappings.specs.Text.{mappings_text}
use Rattle.smap_mappings.proofs.EncodingLemmas.{starts}
use Rattle.smap_mappings.proofs.text_length.TextLength.new.Goals as goal

pub returns : goal.returns
unfolding mappings_text
returns c = record { len_is = refl; encoded = starts (mappings_text []) c.new.result refl c.new.ensures }
