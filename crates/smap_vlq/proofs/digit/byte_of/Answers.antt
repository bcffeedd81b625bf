use Rattle.smap_vlq.proofs.DigitLemmas.{byte_is_told}
use Rattle.smap_vlq.proofs.digit.byte_of.Goals as goal

pub returns : goal.returns
returns c = byte_is_told c.args.digit c.requires
