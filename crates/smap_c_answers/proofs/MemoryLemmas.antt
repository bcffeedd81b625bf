-- How much memory a map takes: sums of numbers that are capped, rooms, and roots.
use Rattle.std.proofs.Common.{add-one}
use Rattle.std.proofs.Common.{◌≡◌, ◌+◌, ◌^◌, ◌<◌, ◌≤◌, ◌∙◌, ℕ, zero, suc, List, [], ◌∷◌, Option, Some, None}
use Rattle.std.proofs.Common.{arith, drop, false, length, option_copied, refl}
use Rattle.std.proofs.Common.{map, slice_get, sym, take}
use Rattle.std.proofs.Common.{Bool, Bor, bytes_eq}
use Rattle.std.specs.Option.{option_eq}
use Rattle.std.proofs.Math.ListN.{drop_of_length-le}
use Rattle.std.proofs.lemmas.Option.{slice_get_past}
use Rattle.smap_record.specs.Record.{same_text}
use Rattle.std.specs.Prelude.{sum_by, option_map}
use Rattle.std.specs.List.{fold}
use Rattle.std.proofs.lemmas.Bool.Decides.{nat_tests}
use Rattle.std.proofs.lemmas.List.Sums.{sum_by_push}
use Rattle.smap_record.specs.Written.{Spelling}
use Rattle.smap_c_answers.specs.Memory.{capped, grown, label_memory, root_memory, roots_memory, text_memory}
use Rattle.smap_record.specs.declared.view.LabelView.{LabelView}
use Rattle.smap_record.specs.Views.{named_of_view}
use Rattle.smap_record.proofs.ListLemmas.{take_next}

-- ---- sums

-- the texts of labels, by their views
pub labels_summed : (vs : List LabelView)
    → sum_by (λ v. text_memory (option_copied v.text)) vs ≡ sum_by label_memory (map named_of_view vs)
labels_summed vs = from vs 0
  where
    from : (vs : List LabelView) (n : ℕ) → fold (λ n v. n + text_memory (option_copied v.text)) n vs
        ≡ fold (λ n label. n + label_memory label) n (map named_of_view vs)
    from [] n = refl
    from (v ∷ vs) n = from vs (n + text_memory (option_copied v.text))

-- a capped sum goes on
pub capped_next : {A : Type 0} (f : A → ℕ) (xs : List A) (i : ℕ) (x : A) (so_far next : ℕ)
    → so_far ≡ capped (sum_by f (take i xs)) → slice_get xs i ≡ Some x → next ≡ capped (so_far + capped (f x))
    → next ≡ capped (sum_by f (take (i + 1) xs))
capped_next f xs i x so_far next before at is =
    rw (is, before, take_next xs i x at, sum_by_push f (take i xs) x)
    (capped_plus (sum_by f (take i xs)) (f x))
  where
    capped_plus : (a b : ℕ) → capped (capped a + capped b) ≡ capped (a + b)
    capped_plus a b = omega arith

-- what a value is made of, by what it is mapped to
pub mapped_from : {A B : Type 0} (f : A → B) (x : Option A) (y : B) → option_map f x ≡ Some y
    → (a : A) × (x ≡ Some a) × (f a ≡ y)
mapped_from f (Some a) y e = (a, refl, cc)
mapped_from f None y e = absurd cc

-- ---- rooms

-- too small a room is doubled
pub room_grows : (n d so_far next : ℕ) → so_far ≡ capped d → so_far < n → n < 2 ^ 64
    → next ≡ capped (so_far + so_far) → next ≡ capped (grown n d)
room_grows n d so_far next is less fits step = grind (arith, nat_tests, is, less, fits, step)

-- and another stays
pub room_stays : (n d so_far : ℕ) → so_far ≡ capped d → n ≤ so_far → so_far ≡ capped (grown n d)
room_stays n d so_far is enough = grind (arith, nat_tests, is, enough)

-- ---- roots

next_root : (ss : List Spelling) (i : ℕ) (s : Spelling) → slice_get ss i ≡ Some s
    → roots_memory (drop i ss) ≡ root_memory s (slice_get ss (suc i)) + roots_memory (drop (suc i) ss)
unfolding roots_memory
next_root [] i s e = absurd cc
next_root (x ∷ xs) zero s e = cc
next_root (x ∷ xs) (suc i) s e = next_root xs i s e

-- texts that are borrowed are compared by what they are
same_borrowed : (same : Bor (List ℕ) → Bor (List ℕ) → Bool)
    → ((a b : Bor (List ℕ)) → same a b ≡ bytes_eq a.now b.now)
    → (a b : Option (Bor (List ℕ))) → option_eq same a b ≡ same_text (option_copied a) (option_copied b)
same_borrowed same are a b = grind (arith, are)

-- the root that is found for a source is its own
pub root_at : (ss : List Spelling) (i : ℕ) (s : Spelling) (root : Option (List ℕ)) → slice_get ss i ≡ Some s
    → option_map (λ (s : Spelling). s.root) (slice_get ss i) ≡ Some root → s.root ≡ root
root_at ss i s root at is = let found : Some s.root ≡ Some root = rw at at is in cc

-- the root of the last source
pub root_last : (ss : List Spelling) (i : ℕ) (s : Spelling) (root : Option (List ℕ)) (text result : ℕ)
    → length ss ≤ i + 1 → s.root ≡ root → text ≡ capped (text_memory root) → result ≡ capped (text + 32)
    → result ≡ capped (root_memory s (slice_get ss (i + 1)))
root_last ss i s root text result behind is of_text step =
    rw (slice_get_past ss (i + 1) behind, is) (omega (arith, of_text, step))

-- and the root of a source before one that has another
pub root_before : (ss : List Spelling) (i : ℕ) (s next : Spelling) (root : Option (List ℕ)) (text result : ℕ)
    → slice_get ss (i + 1) ≡ Some next → same_text s.root next.root ≡ false → s.root ≡ root
    → text ≡ capped (text_memory root) → result ≡ capped (text + 32)
    → result ≡ capped (root_memory s (slice_get ss (i + 1)))
root_before ss i s next root text result at differs is of_text step =
    rw (at, differs, is) (omega (arith, of_text, step))

-- the same text is another's where the two are equal
pub roots_differ : (same : Bor (List ℕ) → Bor (List ℕ) → Bool)
    → ((a b : Bor (List ℕ)) → same a b ≡ bytes_eq a.now b.now)
    → (s next : Spelling) (a b : Option (Bor (List ℕ)))
    (result : Bool) → s.root ≡ option_copied a → next.root ≡ option_copied b → result ≡ option_eq same a b
    → result ≡ false → same_text s.root next.root ≡ false
roots_differ same are s next a b result of_s of_next is differs =
    rw (of_s, of_next) (sym (same_borrowed same are a b) ∙ sym is ∙ differs)

-- what is left goes down by a root as the sum goes up by it
pub roots_next : (ss : List Spelling) (i : ℕ) (s : Spelling) (so_far root next whole : ℕ)
    → slice_get ss i ≡ Some s → capped (so_far + roots_memory (drop i ss)) ≡ whole
    → root ≡ capped (root_memory s (slice_get ss (i + 1))) → next ≡ capped (so_far + root)
    → (next < 2 ^ 64) × (capped (next + roots_memory (drop (i + 1) ss)) ≡ whole)
roots_next ss i s so_far root next whole at before is step =
    let left = rw (sym (add-one i)) at (next_root ss i s at) in
    (omega (arith, step), omega (arith, left, before, is, step))

none_left : (ss : List Spelling) (i : ℕ) → length ss ≤ i → roots_memory (drop i ss) ≡ 0
unfolding roots_memory
none_left ss i behind = rw (drop_of_length-le ss behind) refl

-- and at the end nothing is left
pub roots_done : (ss : List Spelling) (i so_far whole : ℕ) → length ss ≤ i → so_far < 2 ^ 64
    → capped (so_far + roots_memory (drop i ss)) ≡ whole → so_far ≡ whole
roots_done ss i so_far whole behind fits is = omega (arith, none_left ss i behind, fits, is)
