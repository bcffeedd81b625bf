-- Each row of the table is a form of the grammar, and each form a row.
use Rattle.std.proofs.Common.{◌≡◌, ◌∙◌, ◌⊎◌, inl, inr, ℕ, true, false, List, [], ◌++◌, refl, ap, codes}
use Rattle.std.specs.List.{list_all}
use Rattle.smap_frames.specs.Forms.{Form, behind_at, forms}
use Rattle.smap_frames.specs.Frame.{AfterAsync, Alone, BeginsWithAt, FrameParts, InParentheses, IsFirefox}
use Rattle.smap_frames.specs.Frame.{IsV8}
use Rattle.smap_frames.proofs.TableLemmas.{AnyOf, Begins, IsName, IsOf, all_agree, is_sound}

pub sound_rows : list_all is_sound forms ≡ true
sound_rows = refl

pub rows_agree : all_agree forms ≡ true
rows_agree = refl

-- ---- from rows to the grammar

v8 : (form : Form) (line : List ℕ) (f : FrameParts) (o : IsOf form line f) → form.behind_at ≡ true
    → InParentheses (o.name ++ form.opening) form.closing
    ⊎ (Alone (o.name ++ form.opening) form.closing ⊎ AfterAsync (o.name ++ form.opening) form.closing)
    → IsV8 f
v8 form line f o behind is =
    let b : Begins true line o.start = rw behind at o.begins in
    record {
      spaces = b.0;
      lead = o.name ++ form.opening;
      close = form.closing;
      line_end = o.line_end;
      are_spaces = b.1;
      form = is;
      ends = o.ends;
      before_is = o.before_is ∙ ap (λ (xs : List ℕ). xs ++ (o.name ++ form.opening)) b.2;
      after_is = o.after_is;
    }

nameless : (name opening : List ℕ) → name ≡ [] → name ++ opening ≡ opening
nameless name opening e = rw e refl

pub form_said : (line : List ℕ) (f : FrameParts) → AnyOf (λ form. IsOf form line f) forms
    → IsV8 f ⊎ ((BeginsWithAt line → ⊥) × IsFirefox f)
form_said line f (inl o) =
    inl (v8 (behind_at true (codes " (") (codes ")")) line f o refl (inl (o.name, refl, refl)))
form_said line f (inr (inl o)) =
    inl (v8 (behind_at false [] []) line f o refl (inr (inl (nameless o.name [] (o.name_is.0 refl), refl))))
form_said line f (inr (inr (inl o))) = inl (v8 (behind_at false (codes "async ") []) line f o refl
    (inr (inr (nameless o.name (codes "async ") (o.name_is.0 refl), refl))))
form_said line f (inr (inr (inr (inl o)))) = inr (
  o.begins.1,
  record {
    name = o.name;
    no_at = o.name_is.1 refl;
    before_is = o.before_is ∙ ap (λ (xs : List ℕ). xs ++ (o.name ++ codes "@")) o.begins.0;
    ends = rw o.after_is o.ends;
  },
)
form_said line f (inr (inr (inr (inr never)))) = absurd never

-- ---- from the grammar to rows

v8_row : (form : Form) (line : List ℕ) (f : FrameParts) (v : IsV8 f) (name : List ℕ) → form.behind_at ≡ true
    → IsName form name → v.lead ≡ name ++ form.opening → v.close ≡ form.closing → IsOf form line f
v8_row form line f v name behind is lead close = record {
  start = v.spaces ++ codes "at ";
  name = name;
  line_end = v.line_end;
  begins = rw behind (v.spaces, v.are_spaces, refl);
  name_is = is;
  ends = v.ends;
  before_is = v.before_is ∙ ap (λ (xs : List ℕ). v.spaces ++ codes "at " ++ xs) lead;
  after_is = v.after_is ∙ ap (λ (xs : List ℕ). xs ++ v.line_end) close;
}

pub form_found : (line : List ℕ) (f : FrameParts) → IsV8 f ⊎ ((BeginsWithAt line → ⊥) × IsFirefox f)
    → AnyOf (λ form. IsOf form line f) forms
form_found line f (inl v) = row v.form
  where
    row : InParentheses v.lead v.close ⊎ (Alone v.lead v.close ⊎ AfterAsync v.lead v.close)
        → AnyOf (λ form. IsOf form line f) forms
    row (inl (name, e, d)) = inl (v8_row (behind_at true (codes " (") (codes ")")) line f v name refl
        ((λ h. cc), (λ h. cc)) e d)
    row (inr (inl (e, d))) = inr (inl (v8_row (behind_at false [] []) line f v [] refl
        ((λ h. refl), (λ h. cc)) e d))
    row (inr (inr (e, d))) = inr (inr (inl (v8_row (behind_at false (codes "async ") []) line f v [] refl
        ((λ h. refl), (λ h. cc)) e d)))
form_found line f (inr (not_at, v)) = inr (inr (inr (inl (record {
  start = [];
  name = v.name;
  line_end = f.after;
  begins = (refl, not_at);
  name_is = ((λ h. cc), (λ h. v.no_at));
  ends = v.ends;
  before_is = v.before_is;
  after_is = refl;
}))))
