-- Laws about canonical bytes.
use Rattle.std.specs.Prelude.{◌≡◌, ◌<◌, ◌≤◌, ◌↔◌, ℕ, List, Ok}
use Rattle.smap_mappings.specs.Position.{POSITIONS, LINES}
use Rattle.smap_record.specs.Record.{Parts, Record, Allowed, ReadMap, record_of}
use Rattle.smap_record.specs.Fitting.{Fits, ListingFits}
use Rattle.smap_record.specs.Reading.{reading}
use Rattle.smap_canon.specs.Layout.{Form, relative_form, spelling_in, layout, flat_text, ReadsBack}
use Rattle.smap_canon.specs.Canonical.{canonical_map, canonical_text, canonical_text_in}

-- limits that `Limits::new` accepts
pub record AreLimits (limits : Allowed) : Type 0 where
  pub items : limits.items < POSITIONS
  pub lines : limits.lines ≤ LINES

-- Under this base and these limits the bytes are a map without a fault, with this record.
abbrev pub ReadAs : Parts → Allowed → List ℕ → Record → Type 0
ReadAs base limits bytes r = (m : ReadMap) × (reading base limits bytes ≡ Ok m) × (record_of m ≡ r)

-- Under each base and limits that the record fits, its canonical bytes are a map without a fault, with that
-- record.
abbrev pub IsReadAgain : Record → Type 0
IsReadAgain r = (base : Parts) (limits : Allowed) → Fits base limits r
    → ReadAs base limits (canonical_text r) r

-- Against this base, under all limits that the record fits, its canonical bytes in this form are a map
-- without a fault, with that record.
abbrev pub IsReadAgainIn : Form → Parts → Record → Type 0
IsReadAgainIn form base r = (limits : Allowed) → Fits base limits r
    → ReadAs base limits (canonical_text_in form base r) r

-- The same in the relative form.
abbrev pub IsReadAgainFrom : Parts → Record → Type 0
IsReadAgainFrom base r = IsReadAgainIn relative_form base r

-- Under each base and limits that the map's listing fits, its flat bytes are accepted as this same map.
abbrev pub IsFlatReadAgain : ReadMap → Type 0
IsFlatReadAgain m = (base : Parts) (limits : Allowed) → ListingFits base limits m.listing
    → reading base limits (flat_text m) ≡ Ok m

-- In each form, the canonical bytes of a record that fits a base and limits have, under these, no fault and
-- the same record.
abbrev pub CanonicalBytesAreAFixedPoint : Type 0
CanonicalBytesAreAFixedPoint = (form : Form) (base : Parts) (limits : Allowed) (r : Record)
    → AreLimits limits → Fits base limits r
    → ReadsBack (layout (spelling_in form base) (canonical_map r))
    → ReadAs base limits (canonical_text_in form base r) r

-- In each form, two records that fit a base and limits are equal exactly if their canonical bytes are.
abbrev pub EqualBytesForEqualRecordsOnly : Type 0
EqualBytesForEqualRecordsOnly = (form : Form) (base : Parts) (limits : Allowed) (r s : Record)
    → AreLimits limits → Fits base limits r → Fits base limits s
    → ReadsBack (layout (spelling_in form base) (canonical_map r))
    → ReadsBack (layout (spelling_in form base) (canonical_map s))
    → (r ≡ s) ↔ (canonical_text_in form base r ≡ canonical_text_in form base s)
