-- What is tested equal is equal.
use Rattle.std.proofs.Common.{◌≡◌, ℕ, ◌+◌, List, take, Option, Some, None, ap, refl}
use Rattle.std.proofs.Common.{true, slice_get, arith}
use Rattle.std.specs.Prelude.{IfSome, option_map, option_copied}
use Rattle.std.specs.List.{IsDistinct}
use Rattle.std.specs.Option.{option_eq}
use Rattle.std.proofs.lemmas.Bool.Decides.{nat_tests}
use Rattle.smap_record.specs.declared.view.OriginalView.{OriginalView}
use Rattle.smap_record.specs.declared.view.TokenView.{TokenView}
use Rattle.smap_record.specs.Record.{Entry, same_text, same_entry}
use Rattle.smap_record.specs.Views.{entry_of_view, origin_of_view, mapping_of_view}
use Rattle.smap_record.proofs.EqualLemmas.{same_bytes, own_bytes, same_entries, own_entry}
use Rattle.smap_record.proofs.ListLemmas.{take_next}
use Rattle.smap_canon.specs.Sameness.{same_numbered, same_view}
use Rattle.smap_canon.proofs.ListLemmas.{place-at}

same_texts : (a b : Option (List ℕ)) → same_text a b ≡ true → a ≡ b
same_texts None None e = refl
same_texts None (Some b) e = absurd cc
same_texts (Some a) None e = absurd cc
same_texts (Some a) (Some b) e = ap Some (same_bytes a b e)

own_text : (a b : Option (List ℕ)) → a ≡ b → same_text a b ≡ true
own_text a b e = grind (arith, own_bytes)

-- ---- views into one list of sources

-- its source's number is the place of its source
abbrev IsAt : List Entry → OriginalView → Type 0
IsAt sources o = slice_get sources o.source_number ≡ Some (entry_of_view o.source)

abbrev pub IsNumbered : List Entry → TokenView → Type 0
IsNumbered sources v = IfSome v.original (IsAt sources)

module _ (sources : List Entry) (once : IsDistinct same_entry sources) where
  same_origins : (o p : OriginalView) → IsAt sources o → IsAt sources p → same_numbered o p ≡ true
      → origin_of_view o ≡ origin_of_view p
  same_origins o p o_at p_at e =
      grind (arith, nat_tests, same_texts (option_copied o.name) (option_copied p.name))

  own_origin : (o p : OriginalView) → IsAt sources o → IsAt sources p → origin_of_view o ≡ origin_of_view p
      → same_numbered o p ≡ true
  own_origin o p o_at p_at e = grind (
    arith,
    nat_tests,
    place-at same_entry same_entries own_entry sources o.source_number (entry_of_view o.source) once o_at,
    place-at same_entry same_entries own_entry sources p.source_number (entry_of_view p.source) once p_at,
    own_text (option_copied o.name) (option_copied p.name),
  )

  equal_maybe : (o p : Option OriginalView) → IfSome o (IsAt sources) → IfSome p (IsAt sources)
      → option_eq same_numbered o p ≡ true → option_map origin_of_view o ≡ option_map origin_of_view p
  equal_maybe o p o_at p_at e = grind (arith, same_origins)

  maybe_equal : (o p : Option OriginalView) → IfSome o (IsAt sources) → IfSome p (IsAt sources)
      → option_map origin_of_view o ≡ option_map origin_of_view p → option_eq same_numbered o p ≡ true
  maybe_equal o p o_at p_at e = grind (arith, own_origin)

  pub equal_views : (v w : TokenView) → IsNumbered sources v → IsNumbered sources w → same_view v w ≡ true
      → mapping_of_view v ≡ mapping_of_view w
  equal_views v w v_at w_at e = grind (arith, nat_tests, equal_maybe v.original w.original v_at w_at)

  pub views_equal : (v w : TokenView) → IsNumbered sources v → IsNumbered sources w
      → mapping_of_view v ≡ mapping_of_view w → same_view v w ≡ true
  views_equal v w v_at w_at e = grind (arith, nat_tests, maybe_equal v.original w.original v_at w_at)

-- ---- one element after another

pub same_next : {A : Type 0} (xs ys : List A) (i : ℕ) (x y : A) → take i xs ≡ take i ys
    → slice_get xs i ≡ Some x → slice_get ys i ≡ Some y → x ≡ y → take (i + 1) xs ≡ take (i + 1) ys
same_next xs ys i x y done at_x at_y e = let a = take_next xs i x at_x in let b = take_next ys i y at_y in cc

-- lists that are equal are equal at each place
pub same_place : {A : Type 0} (xs ys : List A) (i : ℕ) (x y : A)
    → slice_get xs i ≡ Some x → slice_get ys i ≡ Some y → xs ≡ ys → x ≡ y
same_place xs ys i x y at_x at_y e = cc
