-- Laws about compositions.
use Rattle.std.specs.Prelude.{◌≡◌, ℕ, ◌≤◌, ◌==◌, ◌&&◌, Bool, false, List, [], ◌∷◌, length, map, Some, None}
use Rattle.std.specs.Prelude.{IfSome, option_map, option_and_then}
use Rattle.std.specs.List.{AllByRecursion, IsDistinct}
use Rattle.url.specs.Parts.{serialize}
use Rattle.smap_record.specs.Record.{Allowed, Entry, Mapping, Origin, Parts, Record, same_entry}
use Rattle.smap_record.specs.Fitting.{Fits, names_used}
use Rattle.smap_record.specs.Resolving.{IsMade}
use Rattle.smap_trace.specs.Lookup.{mapping_at}
use Rattle.smap_compose.specs.Chain.{Link, chained, walk}
use Rattle.smap_compose.specs.Thinning.{Rises, thinned}
use Rattle.smap_compose.specs.Composing.{Maps, composition, followed, one_after, origin_in, through}

-- A lookup in a composition, at any position, finds what the lookup in the map finds, followed.
abbrev pub LookupIsFollowed : Type 0
LookupIsFollowed = (r : Record) (maps : Maps) (line column : ℕ)
    → mapping_at (composition r maps).mappings line column
    ≡ option_map (through maps) (mapping_at r.mappings line column)

-- So its original is that of one lookup after the other.
abbrev pub OriginIsFollowed : Type 0
OriginIsFollowed = (r : Record) (maps : Maps) (line column : ℕ)
    → origin_in (composition r maps) line column ≡ option_and_then (followed maps) (origin_in r line column)

-- With no maps to follow a map stays as it is.
abbrev pub NothingToFollow : Type 0
NothingToFollow = (r : Record) → IsDistinct same_entry r.sources → composition r (λ e. None) ≡ r

-- Composing is associative: from the outermost map or from the innermost, the same comes out.
abbrev pub IsAssociative : Type 0
IsAssociative = (r : Record) (maps later : Maps)
    → composition (composition r maps) later ≡ composition r (one_after maps later)

-- The original of a position in the composition of a chain is where the walk through its maps leads.
abbrev pub ChainIsWalked : Type 0
ChainIsWalked = (r : Record) (links : List Link) (line column : ℕ)
    → origin_in (chained r links) line column ≡ option_and_then (walk links) (origin_in r line column)

-- A map that is thinned gives each position the same original.
abbrev pub ThinnedIsFoundAlike : Type 0
ThinnedIsFoundAlike = (r : Record) (line column : ℕ) → Rises None r.mappings
    → origin_in (thinned r) line column ≡ origin_in r line column

-- A composition of maps that can be read against a base under limits can be read so too, if it doesn't have
-- too many sources and names.
abbrev pub CompositionFits : Type 0
CompositionFits = (base : Parts) (limits : Allowed) (r : Record) (maps : Maps) → Fits base limits r
    → ((e : Entry) → IfSome (maps e) (Fits base limits))
    → length (composition r maps).sources ≤ limits.items
    → length (names_used (composition r maps).mappings) ≤ limits.items
    → Fits base limits (composition r maps)

-- ---- maps that lead each position to itself

-- A lookup at the original's line and column finds this original, without a name.
abbrev pub FindsItself : Record → Origin → Type 0
FindsItself s o = origin_in s o.line o.column ≡ Some (record o { name = None })

-- With maps of sources to themselves, which find each original of the map itself, a map stays as it is.
abbrev pub ItselfInside : Type 0
ItselfInside = (r : Record) (maps : Maps) → IsDistinct same_entry r.sources
    → AllByRecursion (λ e. IfSome (maps e) (λ s. s.sources ≡ e ∷ [])) r.sources
    → AllByRecursion (λ m. IfSome m.origin (λ o. IfSome (maps o.source) (λ s. FindsItself s o))) r.mappings
    → composition r maps ≡ r

-- the mapping that leads the position of this one to itself, in this source
abbrev pub to_itself : Entry → Mapping → Mapping
to_itself e m = record m {
  origin = Some (record { source = e; line = m.line; column = m.column; name = None });
}

-- The map of a text to itself that has a mapping wherever the map does.
abbrev pub itself_of : Entry → Record → Record
itself_of e r = record r { sources = e ∷ []; mappings = map (to_itself e) r.mappings }

-- whether both are at one position
abbrev pub share_position : Mapping → Mapping → Bool
share_position m n = n.line == m.line && n.column == m.column

-- After the map of its text to itself, a map stays as it is if no two of its mappings share a position; in
-- any case it is the same thinned.
abbrev pub ItselfOutside : Type 0
ItselfOutside = (e : Entry) (r : Record) → e.ignored ≡ false → IsDistinct same_entry r.sources
    → Rises None r.mappings
    → (thinned (composition (itself_of e r) (λ x. Some r)) ≡ thinned r)
    × (IsDistinct share_position r.mappings → composition (itself_of e r) (λ x. Some r) ≡ r)

-- ---- maps that were read against bases of their own

-- the text of a URL that was parsed
abbrev pub IsUrlText : List ℕ → Type 0
IsUrlText text = (url : Parts) × IsMade url × (text ≡ serialize url)

-- A map that is read against some base can have this record, with URLs that were parsed.
pub record FitsOwnBase (limits : Allowed) (r : Record) : Type 0 where
  pub base : Parts
  pub fits : Fits base limits r
  pub parsed : AllByRecursion (λ e. IfSome e.url IsUrlText) r.sources

-- A composition of maps each of which can be read against a base of its own can be read against every base,
-- if it doesn't have too many sources and names.
abbrev pub BasesMayDiffer : Type 0
BasesMayDiffer = (base : Parts) (limits : Allowed) (r : Record) (maps : Maps) → FitsOwnBase limits r
    → ((e : Entry) → IfSome (maps e) (FitsOwnBase limits))
    → length (composition r maps).sources ≤ limits.items
    → length (names_used (composition r maps).mappings) ≤ limits.items
    → Fits base limits (composition r maps)
