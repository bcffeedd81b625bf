-- The lines of `scripts`, one after another.
use Rattle.std.proofs.lemmas.Option.{slice_get-get_or}
use Rattle.std.proofs.Common.{◌≡◌, ℕ, ◌+◌, ◌<◌, List, [], ◌∷◌, ◌++◌, length, take, flat_map}
use Rattle.std.proofs.Common.{None, Some, refl}
use Rattle.std.proofs.Common.{append-nil}
use Rattle.std.specs.Prelude.{slice_get}
use Rattle.std.proofs.lemmas.Grind.{flat_map-append}
use Rattle.smap_record.proofs.ListLemmas.{take_next}
use Rattle.smap_tool.specs.Scripts.{script_line}

-- one line more
pub next_line : (named : List (List ℕ × ℕ)) (i : ℕ) (s : List ℕ × ℕ) → slice_get named i ≡ Some s
    → flat_map script_line (take i named) ++ script_line s ≡ flat_map script_line (take (i + 1) named)
next_line named i s at = rw (
  take_next named i s at,
  flat_map-append script_line (take i named) (s ∷ []),
  append-nil (script_line s),
) refl

-- below the length there is one
pub none_left : (named : List (List ℕ × ℕ)) (i : ℕ) → i < length named → slice_get named i ≡ None → ⊥
none_left named i lt none = let some = slice_get-get_or named i ([], 0) lt in cc
