-- For private contracts: the listing while it is built.
use Rattle.std.specs.Prelude.{ℕ, ◌<◌, Bool, List, ◌∷◌, length, Option, Ok}
use Rattle.std.specs.List.{list_any}
use Rattle.smap_mappings.specs.declared.token.Token.{Token}
use Rattle.smap_mappings.specs.declared.position.Position.{Position}
use Rattle.smap_mappings.specs.Position.{is_before, position_of}
use Rattle.serde_json.specs.Data.{Data}
use Rattle.smap_shape.specs.Limits.{max_level}
use Rattle.smap_shape.specs.Reading.{shape_of}
use Rattle.smap_record.specs.declared.fault.ReadError.{ReadError}
use Rattle.smap_record.specs.declared.fault.ReadError.TheVariants as errors
use Rattle.smap_record.specs.declared.listing.Listing.{Listing as Fields}
use Rattle.smap_record.specs.declared.fault.Kind.TheVariants.{Offset, Order, Overlap}
use Rattle.smap_record.specs.Record.{Listing}
use Rattle.smap_record.specs.Faults.{Checked, ◌>>=◌, refuse_if, or_fault, of_shape}
use Rattle.smap_record.specs.MapView.{listing_of}
use Rattle.smap_record.specs.Sections.{Inner, combined, falls, overlaps}

-- some token is after the position
abbrev pub any_after : Position → List Token → Bool
any_after offset tokens = list_any (λ t. is_before offset (position_of t)) tokens

-- The fault's path has room for one more section.
abbrev pub HasRoom : ReadError → Type 0
HasRoom (errors.Refused fault) = length fault.section < max_level
HasRoom errors.Memory = Unit {0}

-- the error as one in the section with this index
abbrev pub error_in : ℕ → ReadError → ReadError
error_in k (errors.Refused fault) = errors.Refused (record fault { section = k ∷ fault.section })
error_in k errors.Memory = errors.Memory

-- an offset and what is listed, as the definition has them
abbrev pub both : Position × Fields → Position × Listing
both r = (r.0, listing_of r.1)

-- Where a section with this own offset starts, or why it can't be added to what is listed before it.
abbrev pub section_start : Position → Option Position → Listing → Position → Checked Position
section_start outer last before own = do
  offset ← or_fault Offset (combined outer own)
  _ ← refuse_if Order (falls last own)
  _ ← refuse_if Overlap (overlaps before offset)
  Ok offset

-- What is listed once the map of a section, which starts at the offset, is added to what is listed before it.
abbrev pub listed_map : Inner → Position → Listing → Data → Checked Listing
listed_map inner offset before tree = do
  members ← of_shape (shape_of tree)
  inner offset before members
