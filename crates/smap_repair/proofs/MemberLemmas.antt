-- Members that are found in sections.
use Rattle.std.proofs.Common.{◌≡◌, ◌≢◌, ◌+◌, ◌-◌, ◌<◌, ◌&&◌, ℕ, zero, suc, Bor, List, [], ◌∷◌, ◌++◌}
use Rattle.std.proofs.Common.{Bool, true, false, IfOk, Result, Ok, Err, append-nil, bytes_eq, get_or, length}
use Rattle.std.proofs.Common.{refl, sym, take}
use Rattle.std.specs.List.{flat_map}
use Rattle.std.proofs.lemmas.List.{append_assoc, take_more}
use Rattle.std.proofs.lemmas.Grind.{flat_map-append}
use native.Mathlib.Numerals.{unary_clauses}
use Rattle.serde_json.specs.declared.value.Value.{Value}
use Rattle.std.specs.Cmp.Lexicographic.{pointwise}
use Rattle.std.specs.Bool.{OnTrue}
use Rattle.serde_json.specs.View.{view}
use Rattle.smap_record.specs.Reading.{map_tree}
use Rattle.smap_repair.specs.Members.{KeepsMembers, Member, all_staying}
use Rattle.smap_repair.specs.Members.{are_same, is_same, members_in, sections_of, staying_below}
use Rattle.smap_repair.specs.Members.{staying_in_section}

pub section_more : (f : Value → List Member) (before : List Member) (sections : List Value) (i : ℕ)
    (x : Value) (now next : List Member) → i < length sections → x ≡ get_or sections i x
    → now ≡ before ++ flat_map f (take i sections) → next ≡ now ++ f x
    → next ≡ before ++ flat_map f (take (i + 1) sections)
section_more f before sections i x now next lt at so_far is =
    rw (is, so_far, take_more sections i x lt, ← at, flat_map-append f (take i sections) (x ∷ []))
    (rw (append-nil (f x)) (append_assoc before (flat_map f (take i sections)) (f x)))

-- one level less is left for the maps of sections
pub below_is : (n : ℕ) (tree : Value) → n ≢ 0
    → flat_map (staying_in_section (n - 1)) (sections_of tree) ≡ staying_below n tree
below_is zero tree some = absurd (some refl)
below_is (suc n) tree some = simp unary_clauses refl

-- members by their references
pub same_members : (ms ns : List (Bor (List ℕ) × Bor Value))
    → pointwise (λ a b. bytes_eq a.0.now b.0.now && is_same a.1.now b.1.now) ms ns
    ≡ are_same (members_in ms) (members_in ns)
same_members [] [] = refl
same_members [] (n ∷ ns) = refl
same_members (m ∷ ms) [] = refl
same_members (m ∷ ms) (n ∷ ns) = rw (same_members ms ns) refl

-- the members that stay are the same, if that is what a call says
pub kept : {E : Type 0} (old new : List ℕ) (before after : Value) → map_tree old ≡ Ok (view before)
    → map_tree new ≡ Ok (view after) → (r : Result Bool E)
    → IfOk r (λ keeps. keeps ≡ are_same (all_staying before) (all_staying after))
    → IfOk r (λ keeps. OnTrue keeps (KeepsMembers old new))
kept old new before after old_is new_is (Ok true) same = record {
  before = before;
  after = after;
  old_is = old_is;
  new_is = new_is;
  same = sym same;
}
kept old new before after old_is new_is (Ok false) same = tt
kept old new before after old_is new_is (Err e) same = tt
