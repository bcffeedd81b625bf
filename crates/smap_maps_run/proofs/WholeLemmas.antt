-- An array of texts has no number.
use Rattle.std.proofs.Common.{refl, ◌≡◌, ℕ, List, [], ◌∷◌, false, map}
use Rattle.serde_json.specs.Data.{array, string}
use Rattle.serde_json.specs.View.{items_of}
use Rattle.serde_json.specs.Written.{has_float}

pub strings_whole : (ts : List (List ℕ)) → has_float (array (items_of (map string ts))) ≡ false
strings_whole [] = refl
strings_whole (t ∷ ts) = strings_whole ts
