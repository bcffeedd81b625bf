-- Reading and writing put together.
use Rattle.std.specs.Prelude.{◌≡◌, ◌↔◌, ℕ, List, Bool, IsTrue, bytes_eq, Ok}
use Rattle.smap_record.specs.Record.{Parts, Allowed, ReadMap, record_of}
use Rattle.smap_record.specs.Faults.{Checked, ◌>>=◌}
use Rattle.smap_record.specs.Reading.{reading}
use Rattle.smap_canon.specs.Layout.{Form, flat_text}
use Rattle.smap_canon.specs.Canonical.{canonical_text_in}

-- The canonical bytes, in a form, of a map against a base under limits, or its first fault.
abbrev pub tidied_text : Form → Parts → Allowed → List ℕ → Checked (List ℕ)
tidied_text form base limits bytes = do
  m ← reading base limits bytes
  Ok (canonical_text_in form base (record_of m))

-- Both are accepted with equal records, and the new one is its own canonical bytes in the form.
pub record IsTidied (form : Form) (base : Parts) (limits : Allowed) (old new : List ℕ) : Type 0 where
  pub old_map : ReadMap
  pub new_map : ReadMap
  pub accepted : reading base limits old ≡ Ok old_map
  pub still_accepted : reading base limits new ≡ Ok new_map
  pub same_record : record_of new_map ≡ record_of old_map
  pub own_bytes : canonical_text_in form base (record_of new_map) ≡ new

-- The flat bytes of a map against a base under limits, or its first fault.
abbrev pub flattened_text : Parts → Allowed → List ℕ → Checked (List ℕ)
flattened_text base limits bytes = do
  m ← reading base limits bytes
  Ok (flat_text m)

-- Both are accepted as the same map: with the same labels and listing, so with the same record.
pub record IsFlattened (base : Parts) (limits : Allowed) (old new : List ℕ) : Type 0 where
  pub same_map : ReadMap
  pub accepted : reading base limits old ≡ Ok same_map
  pub still_accepted : reading base limits new ≡ Ok same_map

-- Whether the canonical bytes of two maps in a form are equal, or the first fault of the first one that has
-- a fault.
abbrev pub equal_texts : Form → Parts → Allowed → List ℕ → List ℕ → Checked Bool
equal_texts form base limits one other = do
  a ← tidied_text form base limits one
  b ← tidied_text form base limits other
  Ok (bytes_eq a b)

-- Both are accepted, and the answer is whether their records are equal.
pub record DecidesEquality (base : Parts) (limits : Allowed) (one other : List ℕ) (answer : Bool)
    : Type 0 where
  pub one_map : ReadMap
  pub other_map : ReadMap
  pub one_accepted : reading base limits one ≡ Ok one_map
  pub other_accepted : reading base limits other ≡ Ok other_map
  pub tells : IsTrue answer ↔ (record_of one_map ≡ record_of other_map)
