-- What a script names by a `data:` URL, and by any other.
use Rattle.std.proofs.Common.{◌≡◌, refl, ℕ, Bool, true, false, List, None, Result, Ok, Err, cond}
use Rattle.base64.specs.declared.engine.general_purpose.GeneralPurpose.{GeneralPurpose}
use Rattle.smap_link.specs.Inline.{data_of, inline_map, is_data, some_map}
use Rattle.smap_link.specs.declared.inline.InlineFault.{InlineFault}

-- what holds no map is no `data:` URL
unheld : (is_one : Bool) (held : Result (List ℕ) InlineFault)
    → Ok None ≡ cond is_one (some_map held) (Ok None) → is_one ≡ false
unheld false held is = refl
unheld true (Ok bytes) is = absurd cc
unheld true (Err e) is = absurd cc

pub is_other : (e : GeneralPurpose) (url : List ℕ) → Ok None ≡ inline_map e url → is_data url ≡ false
is_other e url is = unheld (is_data url) (data_of e url) is
