-- For private contracts: what a loop has done, and what is left to do.
use Rattle.std.specs.Prelude.{◌≡◌, ℕ, ◌-◌, ◌<◌, Bool, List, [], ◌∷◌, ◌++◌, length, map, slice_get, Option}
use Rattle.std.specs.Prelude.{Some, Ok, Err}
use Rattle.url.specs.Parts.{Parts}
use Rattle.smap_mappings.specs.declared.token.Token.{Token}
use Rattle.smap_mappings.specs.declared.token.Bounds.{Bounds}
use Rattle.smap_mappings.specs.Decoded.{decoded}
use Rattle.smap_shape.specs.Members.{is_listed}
use Rattle.smap_record.specs.Faults.{Checked, ◌>>=◌, of_segments}
use Rattle.smap_record.specs.Flat.{source_url, shifted}
use Rattle.smap_record.specs.Record.{Entry}

-- what is done, followed by what is left, if that has no fault
abbrev pub after : {A : Type 0} → List A → Checked (List A) → Checked (List A)
after front (Ok rest) = Ok (front ++ rest)
after front (Err e) = Err e

-- what is done, followed by one more, if that has no fault
abbrev pub with_one : {A : Type 0} → List A → Checked A → Checked (List A)
with_one front (Ok x) = Ok (front ++ x ∷ [])
with_one front (Err e) = Err e

-- tokens of earlier sections, which list this many sources and names, followed by those of a mappings string
abbrev pub joined_tokens : List Token → ℕ → ℕ → Bounds → List ℕ → Checked (List Token)
joined_tokens before sources names bounds text = do
  tokens ← of_segments (decoded bounds text)
  Ok (before ++ map (shifted sources names) tokens)

-- for each index below the count, whether it is listed
abbrev pub AreFlags : ℕ → List ℕ → List Bool → Type 0
AreFlags count numbers flags = (i : ℕ) → i < count → slice_get flags i ≡ Some (is_listed i numbers)

-- The entry listed last has the URL of the source before index i, if there is one.
abbrev pub FollowsSource : Parts → Option (List ℕ) → List (Option (List ℕ)) → ℕ → List Entry → Type 0
FollowsSource base root sources i entries = 0 < i → (last : Entry)
    × (slice_get entries (length entries - 1) ≡ Some last)
    × ((source : Option (List ℕ)) → slice_get sources (i - 1) ≡ Some source
    → (k : ℕ) → source_url base root k source ≡ Ok last.url)
