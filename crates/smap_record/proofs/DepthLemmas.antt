-- How many sections the path of a fault names, and how a section's map is read at its level.
use Rattle.std.proofs.Common.{◌≡◌, ℕ, zero, suc, ◌+◌, ◌-◌, ◌≤◌, ◌<◌, List, [], ◌∷◌, length, Option, Some}
use Rattle.std.proofs.Common.{None, Ok, Err, refl, Bool, true, false, arith}
use Rattle.std.specs.Prelude.{Result}
use Rattle.url.specs.Parts.{Parts}
use Rattle.serde_json.specs.Data.{Data}
use Rattle.smap_mappings.specs.declared.error.SegmentPlace.{SegmentPlace}
use Rattle.smap_mappings.specs.declared.error.SegmentKind.{SegmentKind}
use Rattle.smap_mappings.specs.declared.position.Position.{Position}
use Rattle.smap_shape.specs.declared.fault.ShapeFault.{ShapeFault}
use Rattle.smap_shape.specs.Limits.{max_level}
use Rattle.smap_shape.specs.Members.{Flat, Index, MapMembers, flat, index}
use Rattle.smap_record.specs.declared.fault.Kind.{Kind}
use Rattle.smap_record.specs.declared.fault.Kind.TheVariants.{Nested}
use Rattle.smap_record.specs.declared.fault.ReadError.{ReadError}
use Rattle.smap_record.specs.declared.fault.ReadError.TheVariants.{Refused, Memory}
use Rattle.smap_record.specs.Record.{Listing, Allowed}
use Rattle.smap_record.specs.Results.{Fails}
use Rattle.smap_record.specs.SourceUrls.{Resolved, no_url, unstable, resolved}
use Rattle.smap_record.specs.Faults.{Checked, ◌>>=◌, refuse, refuse_if, or_fault, of_shape, of_segments}
use Rattle.smap_record.specs.Faults.{in_section}
use Rattle.smap_record.specs.Flat.{listed_flat, entries_from, source_url, source_at}
use Rattle.smap_record.specs.Building.{HasRoom}
use Rattle.smap_record.specs.Sections.{Inner, listed_section, listed_sections, section_map}

-- A fault names at most n sections.
abbrev pub IsAtMost : {A : Type 0} → ℕ → Checked A → Type 0
IsAtMost n (Ok x) = Unit {0}
IsAtMost n (Err e) = length e.section ≤ n

-- ---- one step after the other

pub then : {A B : Type 0} (n : ℕ) (r : Checked A) (f : A → Checked B)
    → IsAtMost n r → ((x : A) → IsAtMost n (f x)) → IsAtMost n (r >>= f)
then n (Ok x) f one other = other x
then n (Err e) f one other = one

pub if_refused : (n : ℕ) (kind : Kind) (b : Bool) → IsAtMost n (refuse_if kind b)
if_refused n kind true = omega arith
if_refused n kind false = tt

or_refused : {A : Type 0} (n : ℕ) (kind : Kind) (o : Option A) → IsAtMost n (or_fault kind o)
or_refused n kind None = omega arith
or_refused n kind (Some x) = tt

pub by_shape : {A : Type 0} (n : ℕ) (r : Result A ShapeFault) → IsAtMost n (of_shape r)
by_shape n (Ok x) = tt
by_shape n (Err e) = omega arith

by_segments : {A : Type 0} (n : ℕ) (r : Result A (SegmentPlace × SegmentKind)) → IsAtMost n (of_segments r)
by_segments n (Ok x) = tt
by_segments n (Err e) = omega arith

within : {A : Type 0} (n k : ℕ) (r : Checked A) → IsAtMost n r → IsAtMost (suc n) (in_section k r)
within n k (Ok x) h = tt
within n k (Err e) h = omega (arith, h)

-- ---- a flat map's fault names no section

module _ (base : Parts) (root : Option (List ℕ)) (ignored : List ℕ) where
  at_source : (n i : ℕ) (r : Resolved) → IsAtMost n (source_at i r)
  at_source n i no_url = omega arith
  at_source n i unstable = omega arith
  at_source n i (resolved text) = tt

  url : (n i : ℕ) (source : Option (List ℕ)) → IsAtMost n (source_url base root i source)
  unfolding source_url
  url n i None = tt
  url n i (Some source) = search (arith, then, at_source)

  entries : (n i : ℕ) (sources contents : List (Option (List ℕ)))
      → IsAtMost n (entries_from base root ignored i sources contents)
  unfolding entries_from
  entries n i [] contents = tt
  entries n i (s ∷ ss) [] = tt
  entries n i (s ∷ ss) (c ∷ cs) = search (arith, then, url, entries n (i + 1) ss cs) depth 12

pub flat_depth : (base : Parts) (limits : Allowed) (offset : Position) (before : Listing) (m : Flat) (n : ℕ)
    → IsAtMost n (listed_flat base limits offset before m)
unfolding listed_flat
flat_depth base limits offset before m n = search (arith, then, if_refused, entries, by_segments) depth 12

-- ---- sections

module _ (level : ℕ) (inner : Inner) (n : ℕ)
    (each : (offset : Position) (before : Listing) (m : MapMembers Data) → IsAtMost n (inner offset before m))
  where
    pub section_depth : (outer : Position) (last : Option Position) (before : Listing) (tree : Data)
        → IsAtMost n (listed_section level inner outer last before tree)
    section_depth outer last before tree =
        search (arith, then, by_shape, or_refused, if_refused, each) depth 20

    sections_depth : (outer : Position) (k : ℕ) (last : Option Position) (before : Listing)
        (trees : List Data)
        → IsAtMost (suc n) (listed_sections level inner outer k last before trees)
    unfolding listed_sections
    sections_depth outer k last before [] = tt
    sections_depth outer k last before (t ∷ ts) =
        then (suc n) (in_section k (listed_section level inner outer last before t)) _
        (within n k (listed_section level inner outer last before t) (section_depth outer last before t))
        (λ now. sections_depth outer (k + 1) (Some now.0) now.1 ts)

pub map_depth : (base : Parts) (limits : Allowed) (n : ℕ) (offset : Position) (before : Listing)
    (m : MapMembers Data) → IsAtMost n (section_map base limits n offset before m)
unfolding section_map
map_depth base limits zero offset before (flat m) = flat_depth base limits offset before m zero
map_depth base limits zero offset before (index i) = omega arith
map_depth base limits (suc n) offset before (flat m) = flat_depth base limits offset before m (suc n)
map_depth base limits (suc n) offset before (index i) =
    sections_depth (max_level - n) (section_map base limits n) n (map_depth base limits n) offset 0 None
    before i.sections

-- one more section can be named
pub has_room : {A : Type 0} (n : ℕ) (error : ReadError) (r : Checked A)
    → n < max_level → IsAtMost n r → Fails error r → HasRoom error
has_room n (Refused fault) (Ok x) less h fails = absurd cc
has_room n (Refused fault) (Err e) less h fails =
    let same : e ≡ fault = cc in rw (← same) (omega (arith, h, less))
has_room n Memory r less h fails = tt

-- ---- the map of a section, by its level

pub map_of_flat : (base : Parts) (limits : Allowed) (n : ℕ) (offset : Position) (before : Listing) (m : Flat)
    → section_map base limits n offset before (flat m) ≡ listed_flat base limits offset before m
unfolding section_map
map_of_flat base limits zero offset before m = refl
map_of_flat base limits (suc n) offset before m = refl

-- above the greatest level, an index map is read by its sections, which are of one level more
pub map_of_index : (base : Parts) (limits : Allowed) (level : ℕ) (offset : Position) (before : Listing)
    (i : Index Data) → level < max_level
    → section_map base limits (max_level - level) offset before (index i) ≡ listed_sections (level + 1)
    (section_map base limits (max_level - (level + 1))) offset 0 None before i.sections
unfolding section_map
map_of_index base limits level offset before i less =
    let next : max_level - level ≡ suc (max_level - (level + 1)) = omega (arith, less) in
    let back : max_level - (max_level - (level + 1)) ≡ level + 1 = omega (arith, less) in
    rw (next, back) refl

-- at the greatest level it isn't read
pub map_of_deepest : (base : Parts) (limits : Allowed) (level : ℕ)
    (offset : Position) (before : Listing) (i : Index Data)
    → level ≡ max_level → section_map base limits (max_level - level) offset before (index i) ≡ refuse Nested
unfolding section_map
map_of_deepest base limits level offset before i last =
    let none : max_level - level ≡ 0 = omega (arith, last) in rw none refl
