-- For private contracts: the names that mappings use, while they are numbered one by one.
use Rattle.std.specs.Prelude.{◌≡◌, ◌≢◌, ℕ, List, length, map, get_or, slice_get, bytes_eq, true}
use Rattle.std.specs.Prelude.{Option, Some, None, IfSome, option_and_then}
use Rattle.std.specs.List.{AllByRecursion, list_any, position_or_len}
use Rattle.indexmap.specs.IndexSet.{insert_key}
use Rattle.smap_mappings.specs.declared.token.Token.{Token}
use Rattle.smap_record.specs.Record.{Mapping, ReadMap, record_of}
use Rattle.smap_record.specs.Fitting.{names_used}
use Rattle.smap_canon.specs.declared.numbering.UsedNames.{UsedNames}
use Rattle.smap_canon.specs.declared.numbering.TheConstants.{UNUSED}
use denote.Ref.{Bor}

-- the bytes of each string
abbrev pub texts_of : List (Bor (List ℕ)) → List (List ℕ)
texts_of ts = map (λ t. t.now) ts

abbrev pub name_of : Mapping → Option (List ℕ)
name_of m = option_and_then (λ o. o.name) m.origin

-- the mapping's name, if it has one, is among these
abbrev pub HasName : List (List ℕ) → Mapping → Type 0
HasName names m = IfSome (name_of m) (λ n. list_any (bytes_eq n) names ≡ true)

-- the used names with this one added, if there is one and it isn't among them
abbrev pub with_name : Option (List ℕ) → List (List ℕ) → List (List ℕ)
with_name None used = used
with_name (Some n) used = insert_key bytes_eq used n

-- the names used so far, in order of first use
abbrev pub used_in : UsedNames → List (List ℕ)
used_in n = texts_of n.used.keys

-- The table has an entry for each listed name. Unless that is `UNUSED`, the name is used, and the entry is
-- its index among the used names.
pub record AreNumbers (listed used : List (List ℕ)) (numbers : List ℕ) : Type 0 where
  pub count : length numbers ≡ length listed
  pub each : (i : ℕ) (name : List ℕ) → slice_get listed i ≡ Some name → get_or numbers i 0 ≢ UNUSED
      → (list_any (bytes_eq name) used ≡ true) × (get_or numbers i 0 ≡ position_or_len (bytes_eq name) used)

-- The token's name, if it has one, has an index.
abbrev pub IsNumbered : List ℕ → Token → Type 0
IsNumbered numbers t = IfSome (option_and_then (λ o. o.name) t.original) (λ n. get_or numbers n 0 ≢ UNUSED)

-- These are the names that the map's mappings use, and each of them has its index.
pub record AreUsedNames (m : ReadMap) (names : UsedNames) : Type 0 where
  pub used : used_in names ≡ names_used (record_of m).mappings
  pub numbers : AreNumbers m.listing.names (used_in names) names.numbers.items
  pub each : AllByRecursion (IsNumbered names.numbers.items) m.listing.tokens
