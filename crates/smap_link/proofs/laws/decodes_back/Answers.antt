use Rattle.std.proofs.Common.{refl}
use Rattle.percent_encoding.proofs.PercentLemmas.{round_trip}
use Rattle.smap_link.specs.declared.encoding.TheConstants.{IN_PATH}
use Rattle.smap_link.proofs.laws.decodes_back.Goals as goal

pub returns : goal.returns
returns c = λ path bytes. round_trip IN_PATH path refl bytes
