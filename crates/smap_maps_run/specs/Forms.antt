-- The bytes that a map would be rewritten to.
use Rattle.std.specs.Prelude.{◌≡◌, ℕ, List, Option, Some, Ok, option_map}
use Rattle.url.specs.Parts.{Parts}
use Rattle.smap_record.specs.Faults.{Checked, ◌>>=◌}
use Rattle.smap_record.specs.Fitting.{Fits, ListingFits}
use Rattle.smap_record.specs.Record.{Allowed, ReadMap, record_of}
use Rattle.smap_record.specs.UrlBytes.{reading_within}
use Rattle.smap_canon.specs.Canonical.{canonical_text_in}
use Rattle.smap_canon.specs.Laws.{ReadAs}
use Rattle.smap_canon.specs.Layout.{flat_text, form_asked}
use Rattle.smap_maps_run.specs.declared.forms.Form.{Form}
use Rattle.smap_maps_run.specs.declared.forms.Form.TheVariants.{Canonical, Flat}

abbrev pub written_text : Form → Parts → ReadMap → List ℕ
written_text (Canonical relative) base m = canonical_text_in (form_asked relative) base (record_of m)
written_text Flat base m = flat_text m

-- for private contracts: it is read again with its record
abbrev pub IsReadAgainAs : Form → Parts → ReadMap → Type 0
IsReadAgainAs form base m = (limits : Allowed) → Fits base limits (record_of m)
    → ListingFits base limits m.listing → ReadAs base limits (written_text form base m) (record_of m)

-- None where the URLs of its sources take more than so many bytes.
abbrev pub formed_text : Form → Parts → Allowed → ℕ → List ℕ → Checked (Option (List ℕ))
formed_text form base limits most bytes = do
  o ← reading_within base limits most bytes
  Ok (option_map (written_text form base) o)

-- Both are accepted, with one record.
abbrev pub KeepsRecord : Parts → Allowed → ℕ → List ℕ → List ℕ → Type 0
KeepsRecord base limits most old new = (m : ReadMap) × (reading_within base limits most old ≡ Ok (Some m))
    × ReadAs base limits new (record_of m)
