-- Tables of forms: what a form says of a line, rows of a table, and what is checked of each row.
use Rattle.std.proofs.Common.{◌≡◌, ◌∙◌, ◌⊎◌, inl, inr, ℕ, ◌<◌, ◌==◌, ◌&&◌, ◌||◌, Bool, true, false, not, List}
use Rattle.std.proofs.Common.{[], ◌∷◌, ◌++◌, length, Option, Some, None, refl, ap, arith, if◌then◌else◌}
use Rattle.std.proofs.Common.{bytes_eq, nat_lt, codes, is_none}
use Rattle.std.specs.Char.{is_ascii_digit}
use Rattle.std.specs.Cmp.{booleans_Decides}
use Rattle.std.specs.List.{list_all}
use Rattle.std.specs.Option.{option_or}
use Rattle.std.proofs.Math.Bool.{beq}
use Rattle.std.proofs.lemmas.Bool.{and_parts}
use Rattle.std.proofs.lemmas.Bool.Decides.{nat_tests}
use Rattle.std.proofs.lemmas.Slice.Eq.{bytes_eq-Decides}
use Rattle.smap_frames.specs.Forms.{Form}
use Rattle.smap_frames.specs.Frame.{AreSpaces, BeginsWithAt, FrameParts, IsLineEnd, lacks}
use Rattle.smap_frames.specs.Reading.{first_of, lead_len, word_len}

-- ---- what a form says

-- A line begins with this, behind which a form's name stands.
abbrev pub Begins : Bool → List ℕ → List ℕ → Type 0
Begins true line start = (spaces : List ℕ) × AreSpaces spaces × (start ≡ spaces ++ codes "at ")
Begins false line start = (start ≡ []) × (BeginsWithAt line → ⊥)

-- The form may have this name.
abbrev pub IsName : Form → List ℕ → Type 0
IsName form name = (form.named ≡ false → name ≡ [])
    × ((form.mark == 32) ≡ false → lacks form.mark name ≡ true)

-- What is before and after the position of a frame is of the form.
pub record IsOf (form : Form) (line : List ℕ) (f : FrameParts) : Type 0 where
  pub start : List ℕ
  pub name : List ℕ
  pub line_end : List ℕ
  pub begins : Begins form.behind_at line start
  pub name_is : IsName form name
  pub ends : IsLineEnd line_end
  pub before_is : f.before ≡ start ++ (name ++ form.opening)
  pub after_is : f.after ≡ form.closing ++ line_end

-- ---- what is checked of a table

-- Its position is found, and the line's end: `closing` has no digit and no carriage return, and the mark is
-- in `opening`, if a name may stand before that.
abbrev pub is_sound : Form → Bool
is_sound form = (list_all (λ b. not (is_ascii_digit b)) form.closing && lacks 13 form.closing)
    && (if form.mark == 32 then not form.named || nat_lt (word_len form.opening) (length form.opening)
    else bytes_eq form.opening (form.mark ∷ []))

-- If both give a frame of one line, it is the same: where they close alike, they begin alike.
abbrev pub agree : Form → Form → Bool
agree a b = not (beq a.behind_at b.behind_at && bytes_eq a.closing b.closing)
    || (a.mark == b.mark && word_len a.opening == word_len b.opening)

abbrev pub all_agree : List Form → Bool
all_agree rows = list_all (λ a. list_all (agree a) rows) rows

pub no_digits : (form : Form) → is_sound form ≡ true
    → list_all (λ b. not (is_ascii_digit b)) form.closing ≡ true
no_digits form s = grind arith

pub no_return : (form : Form) → is_sound form ≡ true → lacks 13 form.closing ≡ true
no_return form s = grind arith

pub mark_alone : (form : Form) → is_sound form ≡ true → (form.mark == 32) ≡ false
    → form.opening ≡ form.mark ∷ []
mark_alone form s other = grind (arith, bytes_eq-Decides form.opening (form.mark ∷ []))

pub has_space : (form : Form) → is_sound form ≡ true → (form.mark == 32) ≡ true
    → (form.named ≡ false) ⊎ (word_len form.opening < length form.opening)
has_space form s mark = grind (arith, nat_tests)

pub lead_same : (a b : Form) (text : List ℕ) → agree a b ≡ true → a.behind_at ≡ b.behind_at
    → a.closing ≡ b.closing → lead_len a text ≡ lead_len b text
lead_same a b text same at close =
    let marks = alike a b same at close in rw (marks.0, marks.1) refl
  where
    alike : (a b : Form) → agree a b ≡ true → a.behind_at ≡ b.behind_at → a.closing ≡ b.closing
        → (a.mark ≡ b.mark) × (word_len a.opening ≡ word_len b.opening)
    alike a b same at close = grind (
      arith,
      nat_tests,
      booleans_Decides a.behind_at b.behind_at,
      bytes_eq-Decides a.closing b.closing,
    )

-- ---- rows

-- P holds of a row.
abbrev pub AnyOf : (Form → Type 0) → List Form → Type 0
AnyOf P [] = ⊥
AnyOf P (form ∷ rows) = P form ⊎ AnyOf P rows

-- a row of which P holds, and all that is checked of each row
pub record RowWith (P : Form → Type 0) (rows : List Form) : Type 0 where
  pub form : Form
  pub holds : P form
  pub checked : (test : Form → Bool) → list_all test rows ≡ true → test form ≡ true

pub row_of : (P : Form → Type 0) (rows : List Form) → AnyOf P rows → RowWith P rows
row_of P [] never = absurd never
row_of P (form ∷ rows) (inl p) = record {
  form = form;
  holds = p;
  checked = λ test all. (and_parts (test form) (list_all test rows) all).0;
}
row_of P (form ∷ rows) (inr more) =
    let r = row_of P rows more in
    record {
      form = r.form;
      holds = r.holds;
      checked = λ test all. r.checked test (and_parts (test form) (list_all test rows) all).1;
    }

-- ---- the first row that gives a frame

module _ (get : Form → Option FrameParts) where
  -- What follows of a row that was checked and gives a frame, holds of a row if the first one gives it.
  pub first_gives : (Q : Form → Type 0) (test : Form → Bool) (f : FrameParts)
      → ((form : Form) → test form ≡ true → get form ≡ Some f → Q form) → (rows : List Form)
      → list_all test rows ≡ true → first_of get rows ≡ Some f → AnyOf Q rows
  first_gives Q test f q [] all h = cc
  first_gives Q test f q (form ∷ rows) all h =
      let parts = and_parts (test form) (list_all test rows) all in
      by_first (get form) h (q form parts.0) (first_gives Q test f q rows parts.1)
    where
      by_first : (o : Option FrameParts) → option_or o (first_of get rows) ≡ Some f → (o ≡ Some f → Q form)
          → (first_of get rows ≡ Some f → AnyOf Q rows) → Q form ⊎ AnyOf Q rows
      by_first (Some g) h here more = inl (here h)
      by_first None h here more = inr (more h)

  first_none : (rows : List Form) → first_of get rows ≡ None
      → list_all (λ form. is_none (get form)) rows ≡ true
  first_none [] h = refl
  first_none (form ∷ rows) h = by_first (get form) h (λ g. first_none rows g)
    where
      by_first : (o : Option FrameParts) → option_or o (first_of get rows) ≡ None
          → (first_of get rows ≡ None → list_all (λ form. is_none (get form)) rows ≡ true)
          → (is_none o && list_all (λ form. is_none (get form)) rows) ≡ true
      by_first (Some g) h more = cc
      by_first None h more = more h

  -- If a row gives a frame, and each that gives one gives this, the first one does.
  pub first_is : (rows : List Form) (f : FrameParts) (test : Form → Bool) → list_all test rows ≡ true
      → (r : RowWith (λ form. get form ≡ Some f) rows)
      → ((g : FrameParts) → RowWith (λ form. get form ≡ Some g) rows → g ≡ f) → first_of get rows ≡ Some f
  first_is rows f test all r same = by_result (first_of get rows) refl
    where
      never : (o : Option FrameParts) → o ≡ Some f → is_none o ≡ true → ⊥
      never None e h = cc
      never (Some g) e h = cc

      by_result : (o : Option FrameParts) → first_of get rows ≡ o → first_of get rows ≡ Some f
      by_result (Some g) e =
          let other = row_of (λ form. get form ≡ Some g) rows
          (first_gives (λ form. get form ≡ Some g) test g (λ form _ h. h) rows all e) in
          e ∙ ap (λ (h : FrameParts). Some h) (same g other)
      by_result None e =
          absurd (never (get r.form) r.holds (r.checked (λ form. is_none (get form)) (first_none rows e)))
