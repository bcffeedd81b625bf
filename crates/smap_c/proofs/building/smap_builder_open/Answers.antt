-- Where memory runs out after the base is read, the answer is Memory.
use Rattle.std.proofs.Common.{Err, inr, refl}
use Rattle.smap_c_answers.specs.Codes as codes
use Rattle.smap_c.proofs.building.smap_builder_open.Goals as goal

pub returns-in-Err-held : goal.returns-in-Err-held
returns-in-Err-held c = (Err codes.MEMORY, inr (inr refl), (refl, refl))
