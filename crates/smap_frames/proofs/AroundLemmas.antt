-- What is before and after the position of a frame: a URL may begin there, and no digit follows.
use Rattle.std.proofs.Common.{◌≡◌, ◌∙◌, inl, inr, ℕ, ◌+◌, ◌-◌, ◌<◌, ◌&&◌, Bool, true, false, not, List, []}
use Rattle.std.proofs.Common.{◌∷◌, ◌++◌, length, take, drop, refl, ap, arith, codes, length-append, nat_lt}
use Rattle.std.proofs.Common.{append_assoc, append-nil, if◌then◌else◌}
use Rattle.std.specs.Char.{is_ascii_digit}
use Rattle.std.specs.List.{list_all, list_any}
use Rattle.std.proofs.Math.Seq.{drop-append-add}
use Rattle.std.proofs.lemmas.Bool.{and_parts, cases_Bool, ltb-false, ltb-true, not-true}
use Rattle.std.proofs.lemmas.List.{nil_from_length}
use Rattle.smap_frames.specs.Forms.{Form, forms}
use Rattle.smap_frames.specs.Frame.{FrameParts, IsFrame, IsLineEnd}
use Rattle.smap_frames.specs.Places.{continues, may_begin}
use Rattle.smap_frames.proofs.FormLemmas.{form_found, sound_rows}
use Rattle.smap_frames.proofs.TableLemmas.{Begins, IsOf, RowWith, is_sound, no_digits, row_of}

-- The last byte before the position doesn't continue a URL.
abbrev opens : Form → Bool
opens form = if nat_lt 0 (length form.opening)
    then not (list_any continues (drop (length form.opening - 1) form.opening))
    else (form.behind_at && not form.named)

rows_open : list_all opens forms ≡ true
rows_open = refl

begins_behind : (front last : List ℕ) → 0 < length last
    → not (list_any continues (drop (length last - 1) last)) ≡ true → may_begin (front ++ last) ≡ true
begins_behind front last some other =
    let place : length (front ++ last) - 1 ≡ length front + (length last - 1) =
    omega (arith, some, length-append front last) in
    let there : drop (length (front ++ last) - 1) (front ++ last) ≡ drop (length last - 1) last =
    ap (λ n. drop n (front ++ last)) place ∙ drop-append-add front last (length last - 1) in
    rw (there, other) refl

form_begins : (form : Form) (line : List ℕ) (f : FrameParts) → opens form ≡ true → IsOf form line f
    → may_begin f.before ≡ true
form_begins form line f ends o = elim (cases_Bool (nat_lt 0 (length form.opening))) [
  | inl e ↦ rw (o.before_is, ← append_assoc o.start o.name form.opening)
      (begins_behind (o.start ++ o.name) form.opening (ltb-true 0 (length form.opening) e) (rw e at ends))
  | inr e ↦
      let is = and_parts form.behind_at (not form.named) (rw e at ends) in
      let b : Begins true line o.start = rw is.0 at o.begins in
      let none : form.opening ≡ [] =
      nil_from_length form.opening (omega (arith, ltb-false 0 (length form.opening) e)) in
      let name : o.name ≡ [] = o.name_is.0 (not-true form.named is.1) in
      rw (o.before_is, name, none, append-nil o.start, b.2)
      (begins_behind b.0 (codes "at ") (omega arith) refl)
]

row_there : (line : List ℕ) (f : FrameParts) → IsFrame line f → RowWith (λ form. IsOf form line f) forms
row_there line f is = row_of (λ form. IsOf form line f) forms (form_found line f is.form)

pub frame_begins : (f : FrameParts) (line : List ℕ) → IsFrame line f → may_begin f.before ≡ true
frame_begins f line is =
    let row = row_there line f is in form_begins row.form line f (row.checked opens rows_open) row.holds

end_stops : (last : List ℕ) → IsLineEnd last → list_any is_ascii_digit (take 1 last) ≡ false
end_stops last (inl d) = rw d refl
end_stops last (inr d) = rw d refl

close_stops : (close last : List ℕ) → list_all (λ b. not (is_ascii_digit b)) close ≡ true → IsLineEnd last
    → list_any is_ascii_digit (take 1 (close ++ last)) ≡ false
close_stops [] last none ends = end_stops last ends
close_stops (c ∷ cs) last none ends =
    let first = (and_parts (not (is_ascii_digit c)) (list_all (λ b. not (is_ascii_digit b)) cs) none).0 in
    rw (not-true (is_ascii_digit c) first) refl

pub frame_stops : (f : FrameParts) (line : List ℕ) → IsFrame line f
    → list_any is_ascii_digit (take 1 f.after) ≡ false
frame_stops f line is =
    let row = row_there line f is in
    rw row.holds.after_is (close_stops row.form.closing row.holds.line_end
    (no_digits row.form (row.checked is_sound sound_rows)) row.holds.ends)
