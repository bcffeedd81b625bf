use Rattle.std.proofs.Common.{refl, []}
use Rattle.smap_mappings.proofs.EncodingLemmas.{starts}
use Rattle.smap_mappings.proofs.encoder.Encoder.with_capacity.Goals as goal

pub returns : goal.returns
returns c = starts [] c.new.result refl c.new.ensures
