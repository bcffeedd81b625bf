-- Texts of the time when index maps couldn't nest are read as they were.
use Rattle.std.proofs.Common.{◌≡◌, ℕ, ◌+◌, ◌<◌, ◌≤◌, List, [], ◌∷◌, Option, Some, None, Ok, Err, ap, refl}
use Rattle.std.proofs.Common.{false, arith, inl, inr}
use Rattle.std.specs.Prelude.{◌≢◌, Result, IfOk, codes}
use Rattle.std.proofs.lemmas.Bool.{cases_Bool, le-ltb}
use Rattle.std.proofs.lemmas.Bool.Decides.{nat_tests}
use Rattle.std.proofs.lemmas.List.{nil_from_length}
use Rattle.std.proofs.lemmas.Option.{option_and_then_some}
use Rattle.std.proofs.lemmas.Result.{IfOk-at_ok}
use Rattle.url.specs.Parts.{Parts}
use Rattle.serde_json.specs.Data.{Data}
use Rattle.smap_vlq.specs.Limits.{max_position}
use Rattle.smap_mappings.specs.declared.position.Position.{Position}
use Rattle.smap_shape.specs.declared.fault.ShapeFault.{ShapeFault}
use Rattle.smap_shape.specs.declared.fault.ShapeFault.TheVariants as shape
use Rattle.smap_shape.specs.Members.{Section, MapMembers, flat, index}
use Rattle.smap_shape.specs.Reading.{shape_of, section_of, offset_and_map, number_below, position_member}
use Rattle.smap_shape.specs.Reading.{member_of, has, or_fault as shape_or_fault, refuse_if as shape_refuse_if}
use Rattle.smap_record.specs.declared.fault.Kind.TheVariants.{Nested, Order, Overlap}
use Rattle.smap_record.specs.Record.{Listing, Allowed}
use Rattle.smap_record.specs.Faults.{Checked, ◌>>=◌, refuse_if, of_shape, in_section}
use Rattle.smap_record.specs.Flat.{start, nothing}
use Rattle.smap_record.specs.Sections.{own_offset, combined, falls, overlaps, listed_section, listed_sections}
use Rattle.smap_record.specs.Sections.{section_map}
use Rattle.smap_record.specs.Reading.{map_tree, map_of, reading}
use Rattle.smap_record.specs.OneLevel.{of_section, flat_alone, old_section, old_sections, old_map_of}
use Rattle.smap_record.specs.OneLevel.{one_level_reading}
use Rattle.smap_record.specs.Laws.{OldTexts}
use Rattle.smap_record.proofs.StepLemmas.{if_ok}
use Rattle.smap_record.proofs.SectionLemmas.{place_start}
use Rattle.smap_record.proofs.DepthLemmas.{IsAtMost, then, if_refused, by_shape, flat_depth, map_of_flat}

-- The new answer is the old one, unless that was nested sections.
abbrev Follows : {A : Type 0} → Checked A → Checked A → Type 0
Follows (Ok x) new = new ≡ Ok x
Follows (Err e) new = e.kind ≢ Nested → new ≡ Err e

itself : {A : Type 0} (r : Checked A) → Follows r r
itself (Ok x) = refl
itself (Err e) = λ other. refl

-- one step after the other
steps : {A B : Type 0} (r s : Checked A) (f g : A → Checked B)
    → Follows r s → ((x : A) → r ≡ Ok x → Follows (f x) (g x)) → Follows (r >>= f) (s >>= g)
steps (Ok x) s f g same each = rw same (each x refl)
steps (Err e) s f g same each = λ other. rw (same other) refl

-- the same step first
first : {A B : Type 0} (r : Checked A) (f g : A → Checked B) → ((x : A) → Follows (f x) (g x))
    → Follows (r >>= f) (r >>= g)
first (Ok x) f g each = each x
first (Err e) f g each = λ other. refl

-- ---- what an offset is that was accepted

abbrev IsInPlace : Section Data → Type 0
IsInPlace s = (s.line ≤ max_position) × (s.column ≤ max_position)

number_within : (count : ℕ) (d : Data) (n : ℕ) → number_below count d ≡ Some n → n < count
unfolding number_below
number_within count d n h = grind (arith, nat_tests)

position_within : (key : List ℕ) (d : Data) (n : ℕ) → position_member key d ≡ Some n → n ≤ max_position
position_within key d n h = option_and_then_some (number_below (max_position + 1)) (member_of key d) n h
    (λ v at is. let less = number_within (max_position + 1) v n is in omega (arith, less))

-- what holds after each value that is read holds after reading
after_some : {A B : Type 0} (Q : B → Type 0) (fault : ShapeFault) (o : Option A) (f : A → Result B ShapeFault)
    → ((x : A) → o ≡ Some x → IfOk (f x) Q) → IfOk (shape_or_fault fault o >>= f) Q
after_some Q fault None f each = tt
after_some Q fault (Some x) f each = each x refl

after_any : {A B : Type 0} (Q : B → Type 0) (r : Result A ShapeFault) (f : A → Result B ShapeFault)
    → ((x : A) → IfOk (f x) Q) → IfOk (r >>= f) Q
after_any Q (Ok x) f each = each x
after_any Q (Err e) f each = tt

module _ (tree : Data) where
  within : IfOk (offset_and_map tree) IsInPlace
  within = search (arith, after_some, after_any, position_within) depth 12

  section_within : IfOk (section_of 8 tree) IsInPlace
  unfolding section_of
  section_within = if_ok IsInPlace IsInPlace (offset_and_map tree) _ within (λ s placed.
      after_any IsInPlace (shape_refuse_if shape.Nested (has (codes "sections") s.map)) _ (λ u. placed))

  section_follows : Follows (of_shape (section_of 8 tree)) (of_shape (section_of 1 tree))
  unfolding section_of
  section_follows = by (offset_and_map tree)
    where
      by : (r : Result (Section Data) ShapeFault)
          → Follows (of_shape (r >>= λ s.
          shape_refuse_if shape.Nested (has (codes "sections") s.map) >>= λ (u : Unit {0}). Ok s))
          (of_shape (r >>= λ s. shape_refuse_if shape.Nested false >>= λ (u : Unit {0}). Ok s))
      by (Ok s) = elim (cases_Bool (has (codes "sections") s.map)) [
        | inl there ↦ rw there (λ other. absurd (other refl))
        | inr none ↦ rw none refl
      ]
      by (Err e) = λ other. refl

-- what is placed from the start is in range where it was
placed : (s : Section Data) → IsInPlace s → combined start (own_offset s) ≡ Some (own_offset s)
placed s h = rw (
  place_start (own_offset s),
  le-ltb max_position s.line h.0,
  le-ltb max_position s.column h.1,
) refl

told : {A : Type 0} (r : Result A ShapeFault) (x : A) → of_shape r ≡ Ok x → r ≡ Ok x
told (Ok y) x h = let same : y ≡ x = cc in ap Ok same
told (Err e) x h = absurd cc

module _ (base : Parts) (limits : Allowed) where
  map_follows : (offset : Position) (before : Listing) (m : MapMembers Data)
      → Follows (flat_alone base limits offset before m) (section_map base limits 7 offset before m)
  map_follows offset before (flat m) =
      rw (map_of_flat base limits 7 offset before m) (itself (flat_alone base limits offset before (flat m)))
  map_follows offset before (index i) = λ other. absurd (other refl)

  flat_alone_depth : (offset : Position) (before : Listing) (m : MapMembers Data)
      → IsAtMost 0 (flat_alone base limits offset before m)
  flat_alone_depth offset before (flat m) = flat_depth base limits offset before m 0
  flat_alone_depth offset before (index i) = omega arith

  module _ (last : Option Position) (before : Listing) (tree : Data) where
    old_section_depth : IsAtMost 0 (old_section base limits last before tree)
    old_section_depth = search (arith, then, by_shape, if_refused, flat_alone_depth) depth 20

    one_follows : Follows (old_section base limits last before tree)
        (listed_section 1 (section_map base limits 7) start last before tree)
    one_follows =
        steps (of_shape (section_of 8 tree)) (of_shape (section_of 1 tree)) _ _ (section_follows tree)
        (λ s ok. rw (placed s (IfOk-at_ok IsInPlace (told (section_of 8 tree) s ok) (section_within tree)))
        (first (refuse_if Order (falls last (own_offset s))) _ _
        (λ u. first (refuse_if Overlap (overlaps before (own_offset s))) _ _
        (λ v. first (of_shape (shape_of s.map)) _ _
        (λ ms. steps (flat_alone base limits (own_offset s) before ms)
        (section_map base limits 7 (own_offset s) before ms) _ _ (map_follows (own_offset s) before ms)
        (λ now ok. refl))))))

    -- the section that it was, as a path of one number
    numbered : (k : ℕ) → Follows (of_section k (old_section base limits last before tree))
        (in_section k (listed_section 1 (section_map base limits 7) start last before tree))
    numbered k = by (old_section base limits last before tree)
        (listed_section 1 (section_map base limits 7) start last before tree) one_follows old_section_depth
      where
        by : (r s : Checked (Position × Listing)) → Follows r s → IsAtMost 0 r
            → Follows (of_section k r) (in_section k s)
        by (Ok x) s same h = rw same refl
        by (Err e) s same h = λ other.
            rw (same other, nil_from_length e.section (omega (arith, h))) refl

  all_follow : (k : ℕ) (last : Option Position) (before : Listing) (trees : List Data)
      → Follows (old_sections base limits k last before trees)
      (listed_sections 1 (section_map base limits 7) start k last before trees)
  unfolding old_sections listed_sections
  all_follow k last before [] = refl
  all_follow k last before (t ∷ ts) =
      steps (of_section k (old_section base limits last before t))
      (in_section k (listed_section 1 (section_map base limits 7) start last before t)) _ _
      (numbered last before t k) (λ now ok. all_follow (k + 1) (Some now.0) now.1 ts)

  members_follow : (m : MapMembers Data) → Follows (old_map_of base limits m) (map_of base limits m)
  members_follow (flat m) = itself (map_of base limits (flat m))
  members_follow (index i) =
      steps (old_sections base limits 0 None nothing i.sections)
      (listed_sections 1 (section_map base limits 7) start 0 None nothing i.sections) _ _
      (all_follow 0 None nothing i.sections) (λ listing ok. refl)

  text_follows : (text : List ℕ) → Follows (one_level_reading base limits text) (reading base limits text)
  unfolding one_level_reading reading
  text_follows text =
      first (map_tree text) _ _ (λ tree. first (of_shape (shape_of tree)) _ _ members_follow)

pub old_texts_kept : OldTexts
old_texts_kept base limits text = (
  (λ m ok. rw ok at (text_follows base limits text)),
  (λ fault err other. (rw err at (text_follows base limits text)) other),
)
