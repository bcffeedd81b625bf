-- What is read as a frame of a line is a frame of that line.
use Rattle.std.proofs.Common.{◌≡◌, ◌∙◌, inl, inr, ℕ, ◌+◌, ◌-◌, ◌<◌, ◌≤◌, ◌==◌, ◌||◌, Bool, true, false}
use Rattle.std.proofs.Common.{List, [], ◌∷◌, ◌++◌, length, take, drop, Option, Some, None, refl, sym, ap}
use Rattle.std.proofs.Common.{arith, append_assoc, slice_range, nat_eq, nat_le, nat_lt, length-take, cond}
use Rattle.std.proofs.Common.{length-append, decimal, codes}
use Rattle.std.specs.Cmp.{booleans_Decides}
use Rattle.std.specs.List.{starts_with, ends_with, before_last, after_last, prefix_len, position_or_len}
use Rattle.std.specs.Str.Lines.{strip_carriage_return}
use Rattle.std.proofs.lemmas.Bool.{and_parts, cases_Bool, lt-ltb, ltb-true}
use Rattle.std.proofs.lemmas.List.{drop-drop, take-append-drop, take-take}
use Rattle.std.proofs.Math.Seq.{take-add}
use Rattle.std.proofs.lemmas.Slice.Eq.{bytes_eq-Decides}
use Rattle.std.proofs.lemmas.Bool.Decides.{nat_tests}
use Rattle.smap_frames.specs.Forms.{Form, forms}
use Rattle.smap_frames.specs.Frame.{BeginsWithAt, FrameParts, IsFrame, IsPlace, lacks, position_text}
use Rattle.smap_frames.specs.Reading.{at_len, body_frame, frame_of, framed, framed_at, is_colon, is_space}
use Rattle.smap_frames.specs.Reading.{is_url, lead_len, place_of, read}
use Rattle.smap_frames.proofs.CutLemmas.{last_cut, middle_part, some_before}
use Rattle.smap_frames.proofs.PlaceLemmas.{place_of-some}
use Rattle.smap_frames.proofs.BodyLemmas.{at_starts, before_lacks, begins_at, body_cut, front_all}
use Rattle.smap_frames.proofs.TableLemmas.{Begins, IsName, IsOf, first_gives, is_sound, mark_alone}
use Rattle.smap_frames.proofs.TableLemmas.{row_of}
use Rattle.smap_frames.proofs.FormLemmas.{form_said, sound_rows}

pub some_is : {A : Type 0} (x y : A) → Some x ≡ Some y → x ≡ y
some_is x y e = cc

-- ---- a position

-- The text is the position of a frame between two parts of a line.
pub record StandsBetween (before text after : List ℕ) (f : FrameParts) : Type 0 where
  pub before_is : f.before ≡ before
  pub after_is : f.after ≡ after
  pub text_is : text ≡ position_text f.url f.line f.column
  pub url : is_url f.url ≡ true
  pub line_place : IsPlace f.line
  pub column_place : IsPlace f.column

-- A text with two colons is a position.
spelled : (text : List ℕ) (l c : ℕ) → is_url (before_last is_colon (before_last is_colon text)) ≡ true
    → after_last is_colon (before_last is_colon text) ≡ decimal l → after_last is_colon text ≡ decimal c
    → text ≡ position_text (before_last is_colon (before_last is_colon text)) l c
spelled text l c is number column =
    let rest = before_last is_colon text in
    let url = before_last is_colon rest in
    let some : 0 < length url =
    ltb-true 0 (length url) (and_parts (nat_lt 0 (length url)) (lacks 32 url) is).0 in
    let rest_is : rest ≡ url ++ 58 ∷ after_last is_colon rest = last_cut 58 rest (some_before 58 rest some) in
    let some_rest : 0 < length rest =
    omega (arith, ap length rest_is, length-append url (58 ∷ after_last is_colon rest)) in
    let text_is : text ≡ rest ++ 58 ∷ after_last is_colon text =
    last_cut 58 text (some_before 58 text some_rest) in
    let front : rest ≡ url ++ 58 ∷ decimal l = rest_is ∙ rw number refl in
    text_is ∙ ap (λ (xs : List ℕ). rest ++ 58 ∷ xs) column ∙ ap (λ (xs : List ℕ). xs ++ 58 ∷ decimal c) front
    ∙ simp append_assoc

-- what was tested, and what each part is
record AreParts (before text after : List ℕ) (f : FrameParts) : Type 0 where
  before_is : f.before ≡ before
  after_is : f.after ≡ after
  url : f.url ≡ before_last is_colon (before_last is_colon text)
  is_url : is_url (before_last is_colon (before_last is_colon text)) ≡ true
  lines : place_of (after_last is_colon (before_last is_colon text)) ≡ Some f.line
  columns : place_of (after_last is_colon text) ≡ Some f.column

framed_parts : (before text after : List ℕ) (f : FrameParts) → framed before text after ≡ Some f
    → AreParts before text after f
framed_parts before text after f h = grind arith

framed-stands : (before text after : List ℕ) (f : FrameParts) → framed before text after ≡ Some f
    → StandsBetween before text after f
framed-stands before text after f h =
    let p = framed_parts before text after f h in
    let l = place_of-some (after_last is_colon (before_last is_colon text)) f.line p.lines in
    let c = place_of-some (after_last is_colon text) f.column p.columns in
    record {
      before_is = p.before_is;
      after_is = p.after_is;
      text_is = rw p.url (spelled text f.line f.column p.is_url l.1 c.1);
      url = rw p.url p.is_url;
      line_place = l.0;
      column_place = c.0;
    }

-- ---- a form

-- The text is a frame of the form between two parts of a line.
pub record Reads (form : Form) (before text after : List ℕ) (f : FrameParts) : Type 0 where
  pub name : List ℕ
  pub name_is : IsName form name
  pub position : StandsBetween (before ++ (name ++ form.opening)) (position_text f.url f.line f.column)
      (form.closing ++ after) f
  pub text_is : text ≡ (name ++ form.opening) ++ (position_text f.url f.line f.column ++ form.closing)

-- what was tested: that it stands where it may, how it ends, and what is before the position
pub record IsTested (form : Form) (is_at : Bool) (before text after : List ℕ) (lead stop : ℕ) (f : FrameParts)
    : Type 0 where
  pub at : form.behind_at ≡ is_at
  pub closes : ends_with nat_eq text form.closing ≡ true
  pub within : lead ≤ stop
  pub opens : ends_with nat_eq (take lead text) form.opening ≡ true
  pub short : (form.named || nat_le (length (take lead text)) (length form.opening)) ≡ true
  pub framed_is : framed_at before text after (lead, stop) ≡ Some f

pub tested : (form : Form) (is_at : Bool) (before text after : List ℕ) (f : FrameParts)
    → read form is_at before text after ≡ Some f
    → IsTested form is_at before text after (lead_len form (take (length text - length form.closing) text))
    (length text - length form.closing) f
tested form is_at before text after f h = grind (arith, nat_tests, booleans_Decides form.behind_at is_at)

-- a text in three parts
in_three : (text : List ℕ) (lead stop : ℕ) → lead ≤ stop
    → text ≡ take lead text ++ (slice_range text lead stop ++ drop stop text)
in_three text lead stop le =
    let rest : drop stop text ≡ drop (stop - lead) (drop lead text) =
    ap (λ n. drop n text) (omega (arith, le)) ∙ sym (drop-drop (stop - lead) lead text) in
    rw (rest, take-append-drop (stop - lead) (drop lead text)) (sym (take-append-drop lead text))

leads : (form : Form) (before text front middle after name : List ℕ) (f : FrameParts)
    → framed (before ++ front) middle (form.closing ++ after) ≡ Some f → front ≡ name ++ form.opening
    → IsName form name → text ≡ front ++ (middle ++ form.closing) → Reads form before text after f
leads form before text front middle after name f h first is cut =
    let s = framed-stands (before ++ front) middle (form.closing ++ after) f h in
    record {
      name = name;
      name_is = is;
      position = rw (first, s.text_is) at s;
      text_is = rw (cut, first, s.text_is) refl;
    }

-- what is before the opening is a name
name_there : (form : Form) (inner : List ℕ) (k j : ℕ) → is_sound form ≡ true → k ≡ lead_len form inner
    → k ≤ length inner → j ≡ length (take k inner) - length form.opening
    → (form.named || nat_le (length (take k inner)) (length form.opening)) ≡ true
    → IsName form (take j (take k inner))
name_there form inner k j sane is within cut short = (unnamed, lacking)
  where
    unnamed : form.named ≡ false → take j (take k inner) ≡ []
    unnamed e =
        let le : length (take k inner) ≤ length form.opening = grind (arith, nat_tests, e, short) in
        let none : j ≡ 0 = omega (arith, cut, le) in
        rw none refl

    lacking : (form.mark == 32) ≡ false → lacks form.mark (take j (take k inner)) ≡ true
    lacking e =
        let place : k ≡ position_or_len (λ b. b == form.mark) inner + 1 = is ∙ rw e refl in
        let one : length form.opening ≡ 1 = ap length (mark_alone form sane e) in
        let same : j ≡ position_or_len (λ b. b == form.mark) inner =
        omega (arith, cut, one, place, within, length-take k inner) in
        rw (take-take j k inner (omega (arith, same, place)), same) (before_lacks form.mark inner)

pub read_sound : (form : Form) (is_at : Bool) (before text after : List ℕ) (f : FrameParts)
    → is_sound form ≡ true → read form is_at before text after ≡ Some f → Reads form before text after f
read_sound form is_at before text after f sane h =
    let t = tested form is_at before text after f h in
    let stop = length text - length form.closing in
    let inner = take stop text in
    let lead = lead_len form inner in
    let j = length (take lead text) - length form.opening in
    let close : drop stop text ≡ form.closing =
    sym ((bytes_eq-Decides form.closing (drop stop text)).0 t.closes) in
    let opening : drop j (take lead text) ≡ form.opening =
    sym ((bytes_eq-Decides form.opening (drop j (take lead text))).0 t.opens) in
    let same : take lead text ≡ take lead inner = sym (take-take lead stop text t.within) in
    leads form before text (take lead text) (slice_range text lead stop) after (take j (take lead text)) f
    (rw close at t.framed_is)
    (sym (take-append-drop j (take lead text)) ∙ ap (λ (xs : List ℕ). take j (take lead text) ++ xs) opening)
    (rw same (name_there form inner lead (length (take lead inner) - length form.opening) sane refl
    (omega (arith, t.within, length-take stop text)) refl (rw same at t.short)))
    (in_three text lead stop t.within
    ∙ ap (λ (xs : List ℕ). take lead text ++ (slice_range text lead stop ++ xs)) close)

-- ---- the frame

pub not_both : {t : Bool} → t ≡ true → t ≡ false → ⊥
not_both p q = cc

-- the line without the end of it
abbrev body_of : List ℕ → List ℕ
body_of line = take (length (strip_carriage_return line)) line

abbrev end_of : List ℕ → List ℕ
end_of line = drop (length (strip_carriage_return line)) line

begins_so : (line : List ℕ) → Begins (nat_lt 0 (at_len (body_of line))) line
    (take (at_len (body_of line)) (body_of line))
begins_so line =
    let n = prefix_len is_space (body_of line) in
    elim (cases_Bool (starts_with nat_eq (drop n (body_of line)) (codes "at "))) [
      | inl e ↦
          let at : take 3 (drop n (body_of line)) ≡ codes "at " =
          sym ((bytes_eq-Decides (codes "at ") (take 3 (drop n (body_of line)))).0 e) in
          let some : nat_lt 0 (n + 3) ≡ true = lt-ltb 0 (n + 3) (omega arith) in
          rw (e, some) (
            take n (body_of line),
            front_all is_space (body_of line),
            take-add n 3 (body_of line) ∙ ap (λ (xs : List ℕ). take n (body_of line) ++ xs) at,
          )
      | inr e ↦ rw e (refl, not_at e)
    ]
  where
    not_at : starts_with nat_eq (drop (prefix_len is_space (body_of line)) (body_of line)) (codes "at ")
        ≡ false → BeginsWithAt line → ⊥
    not_at e b =
        let w = begins_at line b in
        not_both (at_starts (body_of line) w.1 w.0 w.2 w.3) e

joined : (start lead pos close last : List ℕ) {before after text body line : List ℕ} → before ≡ start ++ lead
    → after ≡ close ++ last → text ≡ lead ++ (pos ++ close) → start ++ text ≡ body → body ++ last ≡ line
    → line ≡ before ++ pos ++ after
joined start lead pos close last b a t d e = rw (b, a, ← e, ← d, t) (simp append_assoc)

-- what a form reads of a line's body
abbrev reader : List ℕ → Form → Option FrameParts
reader line form = read form (nat_lt 0 (at_len (body_of line))) (take (at_len (body_of line)) (body_of line))
    (drop (at_len (body_of line)) (body_of line)) (end_of line)

read_here : (line : List ℕ) (f : FrameParts) (form : Form) → is_sound form ≡ true → reader line form ≡ Some f
    → Reads form (take (at_len (body_of line)) (body_of line)) (drop (at_len (body_of line)) (body_of line))
    (end_of line) f
read_here line f form sane h =
    let body = body_of line in
    read_sound form (nat_lt 0 (at_len body)) (take (at_len body) body) (drop (at_len body) body) (end_of line)
    f sane h

is_of : (line : List ℕ) (f : FrameParts) (form : Form) → is_sound form ≡ true → reader line form ≡ Some f
    → IsOf form line f
is_of line f form sane h =
    let r = read_here line f form sane h in
    let t = tested form (nat_lt 0 (at_len (body_of line))) (take (at_len (body_of line)) (body_of line))
    (drop (at_len (body_of line)) (body_of line)) (end_of line) f h in
    record {
      start = take (at_len (body_of line)) (body_of line);
      name = r.name;
      line_end = end_of line;
      begins = rw t.at (begins_so line);
      name_is = r.name_is;
      ends = body_cut line;
      before_is = r.position.before_is;
      after_is = r.position.after_is;
    }

on_one_line : (line : List ℕ) (f : FrameParts) → frame_of line ≡ Some f
    → (lacks 10 line ≡ true) × (body_frame forms (body_of line) (end_of line) ≡ Some f)
unfolding frame_of
on_one_line line f h = by_feed (lacks 10 line) refl h
  where
    by_feed : (b : Bool) → lacks 10 line ≡ b
        → cond b (body_frame forms (body_of line) (end_of line)) None ≡ Some f
        → (lacks 10 line ≡ true) × (body_frame forms (body_of line) (end_of line) ≡ Some f)
    by_feed true e h = (e, h)
    by_feed false e h = cc

-- what is before and after a frame's position leaves the position
pub position_there : (line : List ℕ) (f : FrameParts) → IsFrame line f
    → slice_range line (length f.before) (length line - length f.after) ≡ position_text f.url f.line f.column
position_there line f is =
    let pos = position_text f.url f.line f.column in
    let whole : line ≡ f.before ++ (pos ++ f.after) = is.whole ∙ append_assoc f.before pos f.after in
    let some = length-append pos f.after in
    let end : length line - length f.after ≡ length f.before + length pos =
    omega (arith, ap length whole, length-append f.before (pos ++ f.after), some) in
    rw (end, whole) (middle_part f.before pos f.after)

pub sound : (line : List ℕ) (f : FrameParts) → frame_of line ≡ Some f → IsFrame line f
sound line f h =
    let p = on_one_line line f h in
    let body = body_of line in
    let start = take (at_len body) body in
    let row = row_of (λ form. reader line form ≡ Some f) forms
    (first_gives (reader line) (λ form. reader line form ≡ Some f) is_sound f (λ form _ e. e) forms
    sound_rows p.1)
    in
    let r = read_here line f row.form (row.checked is_sound sound_rows) row.holds in
    let s = r.position in
    let u = and_parts (nat_lt 0 (length f.url)) (lacks 32 f.url) s.url in
    record {
      whole = joined start (r.name ++ row.form.opening) (position_text f.url f.line f.column) row.form.closing
          (end_of line) s.before_is s.after_is r.text_is (take-append-drop (at_len body) body)
          (take-append-drop (length (strip_carriage_return line)) line);
      one_line = p.0;
      some_url = ltb-true 0 (length f.url) u.0;
      no_space = u.1;
      line_place = s.line_place;
      column_place = s.column_place;
      form = form_said line f (first_gives (reader line) (λ form. IsOf form line f) is_sound f (is_of line f)
          forms sound_rows p.1);
    }
