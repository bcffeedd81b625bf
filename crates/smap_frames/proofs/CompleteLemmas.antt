-- What is a frame of a line is read as that frame.
use Rattle.std.proofs.Common.{◌≡◌, ◌≢◌, ◌∙◌, ◌⊎◌, inl, inr, ℕ, ◌+◌, ◌-◌, ◌<◌, ◌≤◌, ◌==◌, Bool, true, false}
use Rattle.std.proofs.Common.{not, List, [], ◌∷◌, ◌++◌, length, take, drop, reverse, Some, refl, sym, ap}
use Rattle.std.proofs.Common.{arith, append_assoc, append-nil, slice_index, nat_eq, nat_le, nat_lt}
use Rattle.std.proofs.Common.{length-take, length-append, codes, eqb}
use Rattle.std.specs.Char.{is_ascii_digit}
use Rattle.std.specs.Cmp.{booleans_Decides}
use Rattle.std.specs.List.{starts_with, ends_with, after_last, prefix_len, position_or_len, list_all}
use Rattle.std.specs.List.{list_any}
use Rattle.std.specs.Str.Lines.{strip_carriage_return}
use Rattle.std.proofs.Math.Bool.{beq}
use Rattle.std.proofs.Math.Seq.{get_or-append_seam}
use Rattle.std.proofs.lemmas.Bool.{and_parts, cases_Bool, eq-eqb, eqb-false, false_from_ne_true, le-leb}
use Rattle.std.proofs.lemmas.Bool.{lt-ltb, ne_eqb, not-true, or_parts}
use Rattle.std.proofs.lemmas.List.{length-reverse, reverse-append, take-append-drop}
use Rattle.std.proofs.lemmas.List.Folds.{prefix_len-append}
use Rattle.std.proofs.lemmas.List.Sums.{suffix_len-le-length}
use Rattle.std.proofs.lemmas.Slice.Eq.{bytes_eq-Decides}
use Rattle.smap_frames.specs.Forms.{Form, forms}
use Rattle.smap_frames.specs.Frame.{BeginsWithAt, FrameParts, IsFrame, IsLineEnd, lacks, position_text}
use Rattle.smap_frames.specs.Reading.{at_len, body_frame, first_of, frame_of, framed, is_lead, is_space}
use Rattle.smap_frames.specs.Reading.{is_url, lead_len, read, span, word_len}
use Rattle.std.proofs.Common.{slice_range}
use Rattle.smap_frames.proofs.CutLemmas.{begins, middle_part, parts_at}
use Rattle.smap_frames.proofs.ReadingLemmas.{after_mark, framed-position_text, list_all-reverse}
use Rattle.smap_frames.proofs.BodyLemmas.{at_found, front_all, front_passes}
use Rattle.smap_frames.proofs.TextLemmas.{EndsIn, lacks_all, position_text_ends, position_text_lacks}
use Rattle.smap_frames.proofs.TableLemmas.{Begins, IsName, IsOf, agree, first_is, has_space, is_sound}
use Rattle.smap_frames.proofs.TableLemmas.{lead_same, mark_alone, no_digits, no_return, row_of}
use Rattle.smap_frames.proofs.FormLemmas.{form_found, rows_agree, sound_rows}
use Rattle.smap_frames.proofs.SoundLemmas.{Reads, StandsBetween, read_sound, some_is, tested}

-- ---- where the position begins

all_pass : (q : ℕ → Bool) (xs ys : List ℕ) → list_all q xs ≡ true
    → prefix_len q (xs ++ ys) ≡ length xs + prefix_len q ys
all_pass q [] ys all = omega arith
all_pass q (x ∷ xs) ys all =
    let parts = and_parts (q x) (list_all q xs) all in
    rw (parts.0, all_pass q xs ys parts.1) (omega arith)

word_behind : (front word : List ℕ) → list_all (λ b. not (b == 32)) word ≡ true
    → word_len (front ++ word) ≡ length word + word_len front
word_behind front word all =
    rw (reverse-append front word) (all_pass (λ b. not (b == 32)) (reverse word) (reverse front)
    (list_all-reverse (λ b. not (b == 32)) word all))
    ∙ ap (λ n. n + word_len front) (length-reverse word)

word_of_opening : (name opening : List ℕ) → (name ≡ []) ⊎ (word_len opening < length opening)
    → word_len (name ++ opening) ≡ word_len opening
word_of_opening name opening (inl e) = rw e refl
word_of_opening name opening (inr lt) =
    let q : ℕ → Bool = λ b. not (b == 32) in
    let other : eqb (prefix_len q (reverse opening)) (length (reverse opening)) ≡ false =
    ne_eqb (prefix_len q (reverse opening)) (length (reverse opening))
    (λ e. omega (arith, e, lt, length-reverse opening)) in
    rw (reverse-append name opening, prefix_len-append q (reverse opening) (reverse name), other) refl

-- The position begins behind the name and the opening.
lead_found : (form : Form) (name pos : List ℕ) → is_sound form ≡ true → IsName form name
    → list_all (λ b. not (b == 32)) pos ≡ true
    → lead_len form ((name ++ form.opening) ++ pos) ≡ length (name ++ form.opening)
lead_found form name pos sane is free = elim (cases_Bool (form.mark == 32)) [
  | inl e ↦
      let lead = name ++ form.opening in
      let ends = word_behind lead pos free in
      let word = word_of_opening name form.opening (named (has_space form sane e)) in
      let le : word_len lead ≤ length lead = suffix_len-le-length (λ b. not (b == 32)) lead in
      rw e (omega (arith, ends, word, le, length-append lead pos))
  | inr e ↦
      let one = mark_alone form sane e in
      let whole : (name ++ form.opening) ++ pos ≡ name ++ form.mark ∷ pos =
      rw one (append_assoc name (form.mark ∷ []) pos) in
      let stops : not (form.mark == form.mark) ≡ false = rw (eq-eqb form.mark form.mark refl) refl in
      let place : position_or_len (λ b. b == form.mark) ((name ++ form.opening) ++ pos) ≡ length name =
      rw whole (front_passes (λ b. not (b == form.mark)) name form.mark pos
      (lacks_all form.mark name (is.1 e)) stops) in
      rw e (omega (arith, place, ap length one, length-append name form.opening))
]
  where
    named : (form.named ≡ false) ⊎ (word_len form.opening < length form.opening)
        → (name ≡ []) ⊎ (word_len form.opening < length form.opening)
    named (inl e) = inl (is.0 e)
    named (inr lt) = inr lt

-- ---- what a form reads

ends_so : (front last : List ℕ) → ends_with nat_eq (front ++ last) last ≡ true
ends_so front last =
    let place : drop (length (front ++ last) - length last) (front ++ last) ≡ last =
    (parts_at (front ++ last) front last (length (front ++ last) - length last) refl
    (omega (arith, length-append front last))).1 in
    rw place ((bytes_eq-Decides last last).1 refl)

is_lead_so : (form : Form) (name : List ℕ) → IsName form name → is_lead form (name ++ form.opening) ≡ true
is_lead_so form name is = rw (ends_so name form.opening) (elim (cases_Bool form.named) [
  | inl e ↦ rw e refl
  | inr e ↦ rw (e, is.0 e) (le-leb (length form.opening) (length form.opening) (omega arith))
])

stands_framed : (before text after : List ℕ) (f : FrameParts) → StandsBetween before text after f
    → framed before text after ≡ Some f
stands_framed before text after f s = rw (s.text_is, ← s.before_is, ← s.after_is)
    (framed-position_text f.before f.url f.after f.line f.column s.url s.line_place s.column_place)

span_so : (form : Form) (is_at : Bool) (text lead inner : List ℕ) (stop : ℕ) → beq form.behind_at is_at ≡ true
    → ends_with nat_eq text form.closing ≡ true → length text - length form.closing ≡ stop
    → take stop text ≡ inner → lead_len form inner ≡ length lead → nat_le (length lead) stop ≡ true
    → take (length lead) text ≡ lead → is_lead form lead ≡ true
    → span form is_at text ≡ Some (length lead, stop)
span_so form is_at text lead inner stop at ends end cut is le first opens =
    rw (at, ends, end, cut, is, le, first, opens) refl

pub read_complete : (form : Form) (is_at : Bool) (before text after : List ℕ) (f : FrameParts)
    → is_sound form ≡ true → form.behind_at ≡ is_at → Reads form before text after f
    → read form is_at before text after ≡ Some f
read_complete form is_at before text after f sane at r =
    let pos = position_text f.url f.line f.column in
    let lead = r.name ++ form.opening in
    let s = r.position in
    let stop = length lead + length pos in
    let free = position_text_lacks f.url f.line f.column (and_parts (nat_lt 0 (length f.url)) (lacks 32 f.url)
    s.url).1 s.line_place s.column_place in
    let whole : text ≡ (lead ++ pos) ++ form.closing = r.text_is ∙ sym (append_assoc lead pos form.closing) in
    let len = length-append lead pos in
    let cut = parts_at text (lead ++ pos) form.closing stop whole (sym len) in
    let first = (parts_at text lead (pos ++ form.closing) (length lead) r.text_is refl).0 in
    let middle : slice_range text (length lead) stop ≡ pos =
    rw r.text_is (middle_part lead pos form.closing) in
    let ends : ends_with nat_eq text form.closing ≡ true = rw whole (ends_so (lead ++ pos) form.closing) in
    let there : span form is_at text ≡ Some (length lead, stop) =
    span_so form is_at text lead (lead ++ pos) stop ((booleans_Decides form.behind_at is_at).1 at) ends
    (omega (arith, ap length whole, length-append (lead ++ pos) form.closing, len)) cut.0
    (lead_found form r.name pos sane r.name_is free) (le-leb (length lead) stop (omega arith)) first
    (is_lead_so form r.name r.name_is) in
    rw (there, first, middle, cut.1) (stands_framed (before ++ lead) pos (form.closing ++ after) f s)

-- ---- two forms that read one text

closing_of : (form : Form) (before text after : List ℕ) (f : FrameParts) → is_sound form ≡ true
    → Reads form before text after f → after_last is_ascii_digit text ≡ form.closing
closing_of form before text after f sane r =
    let pos = position_text f.url f.line f.column in
    let lead = r.name ++ form.opening in
    let d = position_text_ends f.url f.line f.column r.position.column_place in
    let digit : is_ascii_digit d.0 ≡ true = rw (le-leb 48 d.0 d.1, le-leb d.0 57 d.2) refl in
    let whole : text ≡ (lead ++ d.3.front) ++ d.0 ∷ form.closing =
    r.text_is ∙ rw d.3.whole (simp append_assoc) in
    rw whole (after_mark is_ascii_digit (lead ++ d.3.front) d.0 form.closing (no_digits form sane) digit)

same_frame : (a b : Form) (is_at : Bool) (before text after : List ℕ) (f g : FrameParts)
    → is_sound a ≡ true → is_sound b ≡ true → agree a b ≡ true
    → read a is_at before text after ≡ Some f → read b is_at before text after ≡ Some g → g ≡ f
same_frame a b is_at before text after f g sa sb same h k =
    let ta = tested a is_at before text after f h in
    let tb = tested b is_at before text after g k in
    let close : a.closing ≡ b.closing =
    sym (closing_of a before text after f sa (read_sound a is_at before text after f sa h))
    ∙ closing_of b before text after g sb (read_sound b is_at before text after g sb k) in
    let stop : length text - length a.closing ≡ length text - length b.closing =
    ap (λ (xs : List ℕ). length text - length xs) close in
    let inner = take (length text - length b.closing) text in
    let lead : lead_len a inner ≡ lead_len b inner = lead_same a b inner same (ta.at ∙ sym tb.at) close in
    some_is g f (sym tb.framed_is ∙ rw (stop, lead) at ta.framed_is)

-- ---- the body of a line

last_byte : (front : List ℕ) (x : ℕ) → slice_index (front ++ x ∷ []) (length (front ++ x ∷ []) - 1) ≡ x
last_byte front x =
    let len : length (front ++ x ∷ []) - 1 ≡ length front = omega (arith, length-append front (x ∷ [])) in
    rw len (get_or-append_seam front x [] 0)

pub body_len : (line body last : List ℕ) (x : ℕ) → line ≡ body ++ last → EndsIn body x → x ≢ 13
    → IsLineEnd last → length (strip_carriage_return line) ≡ length body
body_len line body last x whole ends ne (inl e) =
    let same : line ≡ ends.front ++ x ∷ [] = whole ∙ rw (e, append-nil body) ends.whole in
    let other : (slice_index line (length line - 1) == 13) ≡ false =
    rw (same, last_byte ends.front x) (ne_eqb x 13 ne) in
    rw other (ap length (same ∙ sym ends.whole))
body_len line body last x whole ends ne (inr e) =
    let same : line ≡ body ++ 13 ∷ [] = whole ∙ rw e refl in
    let is : (slice_index line (length line - 1) == 13) ≡ true = rw (same, last_byte body 13) refl in
    let len : length line ≡ length body + 1 = ap length same ∙ length-append body (13 ∷ []) in
    rw is (omega (arith, len, length-take (length line - 1) line))

-- A line that is this body and this end is read in these parts.
frame_of_parts : (line body last : List ℕ) (x : ℕ) → lacks 10 line ≡ true → line ≡ body ++ last
    → EndsIn body x → x ≢ 13 → IsLineEnd last → frame_of line ≡ body_frame forms body last
unfolding frame_of
frame_of_parts line body last x one whole ends ne line_end =
    let n = length (strip_carriage_return line) in
    let parts = parts_at line body last n whole (body_len line body last x whole ends ne line_end) in
    rw one (ap (λ (xs : List ℕ). body_frame forms xs (drop n line)) parts.0
    ∙ ap (λ (xs : List ℕ). body_frame forms body xs) parts.1)

-- If a line doesn't begin as V8's do, neither does its body.
no_start : (line body last : List ℕ) → line ≡ body ++ last → (BeginsWithAt line → ⊥)
    → starts_with nat_eq (drop (prefix_len is_space body) body) (codes "at ") ≡ false
no_start line body last whole not_at = false_from_ne_true (starts_with nat_eq (drop (prefix_len is_space body)
    body) (codes "at "))
    (λ h. not_at (begun (begins (drop (prefix_len is_space body) body) (codes "at ") h)))
  where
    begun : drop (prefix_len is_space body) body ≡ codes "at "
        ++ drop 3 (drop (prefix_len is_space body) body) → BeginsWithAt line
    begun cut =
        let spaces = take (prefix_len is_space body) body in
        let rest = drop 3 (drop (prefix_len is_space body) body) in
        record {
          spaces = spaces;
          rest = rest ++ last;
          are_spaces = front_all is_space body;
          whole = whole ∙ ap (λ (xs : List ℕ). xs ++ last)
              (sym (take-append-drop (prefix_len is_space body) body)
              ∙ ap (λ (xs : List ℕ). spaces ++ xs) cut)
              ∙ simp append_assoc;
        }

-- Where a line begins as it has to, so does its body.
begun : (b : Bool) (line start rest last : List ℕ) → Begins b line start → line ≡ (start ++ rest) ++ last
    → (at_len (start ++ rest) ≡ length start) × (b ≡ nat_lt 0 (length start))
begun true line start rest last (spaces, are, is) whole =
    let found = at_found spaces rest are in
    let len = length-append spaces (codes "at ") in (
      rw (is, found.0, found.1) (omega (arith, len)),
      rw is (sym (lt-ltb 0 (length (spaces ++ codes "at ")) (omega (arith, len)))),
    )
begun false line start rest last (is, not_at) whole =
    (rw (no_start line (start ++ rest) last whole not_at, is) refl, rw is refl)

reader_at : (start rest last : List ℕ) → at_len (start ++ rest) ≡ length start
    → body_frame forms (start ++ rest) last
    ≡ first_of (λ form. read form (nat_lt 0 (length start)) start rest last) forms
reader_at start rest last e =
    let parts = parts_at (start ++ rest) start rest (length start) refl refl in
    parted (at_len (start ++ rest)) (length start) e parts.0 parts.1
  where
    parted : (n k : ℕ) → n ≡ k → take k (start ++ rest) ≡ start → drop k (start ++ rest) ≡ rest
        → first_of (λ form. read form (nat_lt 0 n) (take n (start ++ rest)) (drop n (start ++ rest)) last)
        forms
        ≡ first_of (λ form. read form (nat_lt 0 k) start rest last) forms
    parted n k e t d = rw (e, t, d) refl

-- ---- the frame

-- no carriage return at the end of what is before the line's end
last_of : (front : List ℕ) (x : ℕ) (ys : List ℕ) → x ≢ 13 → lacks 13 ys ≡ true
    → (y : ℕ) × (y ≢ 13) × EndsIn (front ++ x ∷ ys) y
last_of front x [] ne none = (x, ne, record { front = front; whole = refl })
last_of front x (y ∷ ys) ne none =
    let parts = or_parts (y == 13) (list_any (λ b. b == 13) ys) (not-true _ none) in
    let more = last_of (front ++ x ∷ []) y ys (eqb-false y 13 parts.0) (rw parts.1 refl) in
    let whole = sym (append_assoc front (x ∷ []) (y ∷ ys)) ∙ more.2.whole in
    (more.0, more.1, record { front = more.2.front; whole = whole })

-- What a form reads of a line in its parts.
record InParts (form : Form) (line : List ℕ) (f : FrameParts) : Type 0 where
  start : List ℕ
  rest : List ℕ
  line_end : List ℕ
  there : Reads form start rest line_end f
  found : frame_of line ≡ first_of (λ form. read form (nat_lt 0 (length start)) start rest line_end) forms
  at : form.behind_at ≡ nat_lt 0 (length start)

in_parts : (form : Form) (line : List ℕ) (f : FrameParts) → is_sound form ≡ true → IsFrame line f
    → IsOf form line f → InParts form line f
in_parts form line f sane is o =
    let pos = position_text f.url f.line f.column in
    let lead = o.name ++ form.opening in
    let rest = lead ++ (pos ++ form.closing) in
    let d = position_text_ends f.url f.line f.column is.column_place in
    let whole : line ≡ (o.start ++ rest) ++ o.line_end =
    is.whole ∙ rw (o.before_is, o.after_is) (simp append_assoc) in
    let y = last_of ((o.start ++ lead) ++ d.3.front) d.0 form.closing (λ e. omega (arith, e, d.1))
    (no_return form sane) in
    let there : o.start ++ rest ≡ ((o.start ++ lead) ++ d.3.front) ++ d.0 ∷ form.closing =
    rw d.3.whole (simp append_assoc) in
    let b = begun form.behind_at line o.start rest o.line_end o.begins whole in
    let url : is_url f.url ≡ true = rw (lt-ltb 0 (length f.url) is.some_url) is.no_space in
    record {
      start = o.start;
      rest = rest;
      line_end = o.line_end;
      there = record {
        name = o.name;
        name_is = o.name_is;
        position = record {
          before_is = o.before_is;
          after_is = o.after_is;
          text_is = refl;
          url = url;
          line_place = is.line_place;
          column_place = is.column_place;
        };
        text_is = refl;
      };
      found = frame_of_parts line (o.start ++ rest) o.line_end y.0 is.one_line whole
          (record { front = y.2.front; whole = there ∙ y.2.whole }) y.1 o.ends
          ∙ reader_at o.start rest o.line_end b.0;
      at = b.1;
    }

pub complete : (line : List ℕ) (f : FrameParts) → IsFrame line f → frame_of line ≡ Some f
complete line f is =
    let row = row_of (λ form. IsOf form line f) forms (form_found line f is.form) in
    let sane = row.checked is_sound sound_rows in
    let p = in_parts row.form line f sane is row.holds in
    let is_at = nat_lt 0 (length p.start) in
    let this = read_complete row.form is_at p.start p.rest p.line_end f sane p.at p.there in
    p.found ∙ first_is (λ form. read form is_at p.start p.rest p.line_end) forms f is_sound sound_rows
    (record { form = row.form; holds = this; checked = row.checked })
    (λ g other. same_frame row.form other.form is_at p.start p.rest p.line_end f g sane
    (other.checked is_sound sound_rows)
    (other.checked (agree row.form) (row.checked (λ a. list_all (agree a) forms) rows_agree)) this
    other.holds)
