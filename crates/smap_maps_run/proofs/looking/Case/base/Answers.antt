use Rattle.std.proofs.lemmas.Str.{IsUtf8-from_is_utf8}
use Rattle.smap_maps_run.proofs.looking.Case.base.Goals as goal

pub returns-in_default : goal.returns-in_default
returns-in_default g c = λ yes. absurd
    (c.in_default.ensures.cases.0 (IsUtf8-from_is_utf8 _ (rw c.deref.ensures.value yes)))
