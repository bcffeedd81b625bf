-- The code reads frames at places of a line, `frame_of` in its parts.
use Rattle.std.proofs.Common.{◌≡◌, ◌∙◌, ℕ, ◌+◌, ◌-◌, ◌<◌, ◌≤◌, nat_lt, true, false, List, [], ◌∷◌, ◌++◌, map}
use Rattle.std.proofs.Common.{length, take, drop, get_or, slice_range, Option, Some, None, is_some}
use Rattle.std.proofs.Common.{option_map, refl, sym, ap, arith, length-drop, length-take}
use Rattle.std.specs.List.{after_last, before_last}
use Rattle.std.specs.Str.Lines.{strip_carriage_return}
use Rattle.std.proofs.Math.Seq.{take-add}
use Rattle.std.specs.Option.{option_or}
use Rattle.std.proofs.lemmas.List.{drop_all, drop_more, drop-append-le, drop-drop, drop-take}
use Rattle.std.proofs.lemmas.List.{take-append-drop, take-take}
use Rattle.smap_frames.specs.Frame.{FrameParts, lacks}
use Rattle.smap_frames.specs.Forms.{Form, forms}
use Rattle.smap_frames.specs.FormView.{form_in}
use Rattle.smap_frames.specs.FrameView.{parts_in}
use Rattle.smap_frames.specs.declared.forms.Form.{Form as Row}
use Rattle.smap_frames.specs.declared.parts.Frame.{Frame}
use Rattle.smap_frames.specs.Reading.{at_len, between, body_frame, first_of, frame_of, framed, framed_at}
use Rattle.smap_frames.specs.Reading.{is_colon, is_url, place_of, read}

pub framed_is : (before text after there rest column url number : List ℕ) (l c : ℕ) → there ≡ after
    → rest ≡ before_last is_colon text → column ≡ after_last is_colon text
    → url ≡ before_last is_colon rest → number ≡ after_last is_colon rest
    → is_url url ≡ true → place_of number ≡ Some l → place_of column ≡ Some c
    → Some (record { before = before; url = url; line = l; column = c; after = there })
    ≡ framed before text after
framed_is before text after there rest column url number l c a r co u n is lp cp =
    let is' = rw (u, r) at is in
    let lp' = rw (n, r) at lp in
    let cp' = rw co at cp in
    rw (is', lp', cp', u, r, a) refl

cut_front : (n m : ℕ) (xs : List ℕ) → n ≤ m → drop n (take m xs) ≡ take (m - n) (drop n xs)
cut_front n m xs le =
    let whole : m ≡ n + (m - n) = omega (arith, le) in
    ap (λ k. drop n (take k xs)) whole ∙ drop-take n (m - n) xs

-- a text within one
pub inside : (line : List ℕ) (start end lead stop : ℕ) → start ≤ end → end ≤ length line → lead ≤ stop
    → stop ≤ length (slice_range line start end) → between framed line (start + lead) (start + stop)
    ≡ framed_at (take start line) (slice_range line start end) (drop end line) (lead, stop)
inside line start end lead stop le within short fits =
    let xs = drop start line in
    let text = take (end - start) xs in
    let len : length text ≡ end - start =
    omega (arith, length-take (end - start) xs, length-drop start line) in
    let front : take (start + lead) line ≡ take start line ++ take lead text =
    rw (take-take lead (end - start) xs (omega (arith, fits, len))) (take-add start lead line) in
    let count : start + stop - (start + lead) ≡ stop - lead = omega arith in
    let left : slice_range line (start + lead) (start + stop) ≡ take (stop - lead) (drop lead xs) =
    rw (count, drop-drop lead start line) refl in
    let right : slice_range text lead stop ≡ take (stop - lead) (drop lead xs) =
    rw (cut_front lead (end - start) xs (omega (arith, fits, len)))
    (take-take (stop - lead) (end - start - lead) (drop lead xs) (omega (arith, fits, len))) in
    let middle : slice_range line (start + lead) (start + stop) ≡ slice_range text lead stop =
    left ∙ sym right in
    let whole : xs ≡ text ++ drop end line = sym (take-append-drop (end - start) xs)
    ∙ ap (λ (ys : List ℕ). text ++ ys)
    (drop-drop (end - start) start line ∙ ap (λ k. drop k line) (omega arith)) in
    let rest : drop (start + stop) line ≡ drop stop text ++ drop end line = sym (drop-drop stop start line)
    ∙ ap (drop stop) whole ∙ drop-append-le stop text (drop end line) fits in
    rw (front, middle, rest) refl

pub from_start : (read : List ℕ → List ℕ → List ℕ → Option FrameParts) (line : List ℕ) (k end : ℕ) → k ≤ end
    → between read line k end ≡ read (take k (take end line)) (drop k (take end line)) (drop end line)
from_start read line k end le =
    rw (take-take k end line le, cut_front k end line le) refl

-- ---- the forms in their order

pub same_first : (f g : Form → Option FrameParts) (rows : List Form) → ((form : Form) → f form ≡ g form)
    → first_of f rows ≡ first_of g rows
same_first f g [] h = refl
same_first f g (form ∷ rows) h = rw (h form, same_first f g rows h) refl

first_step : (get : Form → Option FrameParts) (rows : List Row) (i : ℕ) (d : Row) → i < length rows
    → first_of get (map form_in (drop i rows))
    ≡ option_or (get (form_in (get_or rows i d))) (first_of get (map form_in (drop (i + 1) rows)))
first_step get rows i d lt = ap (λ (xs : List Row). first_of get (map form_in xs)) (drop_more rows i d lt)

-- a row that gives a frame, and one that gives none
pub row_gives : (get : Form → Option FrameParts) (rows : List Row) (i : ℕ) (d : Row) (o : Option Frame)
    → i < length rows → option_map parts_in o ≡ get (form_in (get_or rows i d)) → true ≡ is_some o
    → option_map parts_in o ≡ first_of get (map form_in (drop i rows))
row_gives get rows i d (Some f) lt is some = rw (first_step get rows i d lt, ← is) refl
row_gives get rows i d None lt is some = cc

pub row_gives_none : (get : Form → Option FrameParts) (rows : List Row) (i : ℕ) (d : Row) (o : Option Frame)
    → i < length rows → option_map parts_in o ≡ get (form_in (get_or rows i d)) → false ≡ is_some o
    → first_of get (map form_in (drop (i + 1) rows)) ≡ first_of get (map form_in (drop i rows))
row_gives_none get rows i d (Some f) lt is none = cc
row_gives_none get rows i d None lt is none = rw (first_step get rows i d lt, ← is) refl

pub no_row : (get : Form → Option FrameParts) (rows : List Row) (i : ℕ) → length rows ≤ i
    → None ≡ first_of get (map form_in (drop i rows))
no_row get rows i le = rw (drop_all i rows le) refl

-- The reading of a line's body begins at a place of the line.
pub body_read : (rows : List Form) (line : List ℕ) (end n : ℕ) → n ≡ at_len (take end line) → n ≤ end
    → first_of (λ form. between (read form (nat_lt 0 n)) line n end) rows
    ≡ body_frame rows (take end line) (drop end line)
body_read rows line end n is le =
    same_first (λ form. between (read form (nat_lt 0 n)) line n end)
    (λ form. read form (nat_lt 0 n) (take n (take end line)) (drop n (take end line)) (drop end line)) rows
    (λ form. from_start (read form (nat_lt 0 n)) line n end le)
    ∙ ap (λ k. first_of (λ form. read form (nat_lt 0 k) (take k (take end line)) (drop k (take end line))
    (drop end line)) rows) is

pub frame_read : (line : List ℕ) (n : ℕ) (rows : List Form) (r : Option FrameParts) → rows ≡ forms
    → lacks 10 line ≡ true → n ≡ length (strip_carriage_return line)
    → r ≡ body_frame rows (take n line) (drop n line) → r ≡ frame_of line
unfolding frame_of
frame_read line n rows r all one is h =
    rw (one, ← is) (h ∙ ap (λ forms. body_frame forms (take n line) (drop n line)) all)
