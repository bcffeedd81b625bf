-- Sections, one after the other.
use Rattle.std.proofs.Common.{◌≡◌, ◌∙◌, ℕ, ◌+◌, ◌≤◌, List, length, map, Option, Some, Ok, refl, slice_get}
use Rattle.std.proofs.Common.{drop, arith}
use Rattle.std.proofs.lemmas.Bool.Decides.{nat_tests}
use Rattle.std.proofs.lemmas.List.{drop_all, length-map}
use Rattle.std.proofs.lemmas.Option.{slice_get-map}
use Rattle.smap_mappings.specs.declared.position.Position.{Position}
use Rattle.smap_mappings.specs.Position.{place}
use Rattle.serde_json.specs.Data.{Data}
use Rattle.serde_json.specs.View.{view}
use Rattle.serde_json.specs.declared.value.Value.{Value}
use Rattle.smap_record.specs.declared.fault.ReadError.{ReadError}
use Rattle.smap_record.specs.declared.fault.ReadError.TheVariants.{Refused, Memory}
use Rattle.smap_shape.specs.Reading.{section_of}
use Rattle.smap_record.specs.Record.{Listing}
use Rattle.smap_record.specs.Results.{Fails}
use Rattle.smap_record.specs.Faults.{Checked, ◌>>=◌, of_shape, in_section}
use Rattle.smap_record.specs.Flat.{start}
use Rattle.smap_record.specs.Building.{error_in, section_start, listed_map}
use Rattle.smap_record.specs.Sections.{Inner, own_offset, listed_section, listed_sections}
use Rattle.smap_record.proofs.ListLemmas.{drop_next}
use Rattle.smap_record.proofs.StepLemmas.{bind_assoc}

-- what is placed from the start of a map stays where it is
pub place_start : (p : Position) → place start p ≡ p
place_start p = grind (arith, nat_tests)

-- A section is placed, then its map is added.
pub section_in_steps : (level : ℕ) (inner : Inner) (outer : Position) (last : Option Position)
    (before : Listing) (tree : Data) → listed_section level inner outer last before tree
    ≡ (of_shape (section_of level tree) >>= λ s. section_start outer last before (own_offset s) >>= λ offset.
    listed_map inner offset before s.map >>= λ now. Ok (own_offset s, now))
section_in_steps level inner outer last before tree = simp bind_assoc

module _ (level : ℕ) (inner : Inner) (outer : Position) (k : ℕ) (last : Option Position) (before : Listing)
    (all : List Value) where
  -- the next is looked at
  pub sections_next : (section : Value) → slice_get all k ≡ Some section
      → listed_sections level inner outer k last before (drop k (map view all))
      ≡ (in_section k (listed_section level inner outer last before (view section)) >>= λ now.
      listed_sections level inner outer (k + 1) (Some now.0) now.1 (drop (k + 1) (map view all)))
  unfolding listed_sections
  sections_next section at =
      rw (drop_next (map view all) k (view section) (slice_get-map view all k ∙ rw at refl)) refl

  -- all are listed
  pub sections_end : length all ≤ k
      → listed_sections level inner outer k last before (drop k (map view all)) ≡ Ok before
  unfolding listed_sections
  sections_end end = rw (drop_all k (map view all) (omega (arith, length-map all view, end))) refl

-- a fault is one in the section
pub fails_within : {A : Type 0} (k : ℕ) (error : ReadError) (r : Checked A) → Fails error r
    → Fails (error_in k error) (in_section k r)
fails_within k (Refused fault) r err = rw err refl
fails_within k Memory r err = tt
