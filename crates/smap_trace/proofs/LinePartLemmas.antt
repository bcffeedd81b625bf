-- The positions of a line, as parts of it.
use Rattle.std.proofs.Common.{◌≡◌, ◌∙◌, ℕ, ◌+◌, ◌-◌, Bool, false, List, [], ◌∷◌, ◌++◌, drop, take, length}
use Rattle.std.proofs.Common.{flat_map, map, slice_range, Option, Some, None, refl, sym, ap, arith}
use Rattle.std.proofs.Common.{append_assoc, append-nil, length-append}
use Rattle.std.specs.Prelude.{option_and_then, option_map, unwrap_or}
use Rattle.std.specs.Option.{option_map_or}
use Rattle.std.proofs.Math.Seq.{drop-append_seam, take-append_seam}
use Rattle.smap_frames.specs.Frame.{FrameParts, IsFrame, position_text}
use Rattle.smap_record.specs.Record.{Origin, Record}
use Rattle.smap_trace.specs.Anywhere.{Occurrence, Piece, byte, found, pieces_of}
use Rattle.smap_trace.specs.Cutting.{pieces_from}
use Rattle.smap_trace.specs.LineParts.{Part, shown, with_parts}
use Rattle.smap_trace.specs.Scripts.{Script}
use Rattle.smap_trace.specs.Translation.{anywhere_fate, fate_at, fate_in, kept, origin_at, origin_text}
use Rattle.smap_trace.specs.Translation.{translated, written_for}
use Rattle.smap_trace.proofs.CuttingLemmas.{written_all, written_on}
use Rattle.smap_trace.proofs.PieceLemmas.{kept_pieces, not_hidden, pieces_joined}
use Rattle.smap_frames.proofs.SoundLemmas.{position_there}

-- ---- positions anywhere

-- What was found up to a place, and what is written up to it.
pub record HasParts (ignore : Bool) (scripts : List Script) (text : List ℕ) (parts : List Part) (at : ℕ)
    : Type 0 where
  pub front : List ℕ
  pub parts_are : (more : List Part) → with_parts text 0 (parts ++ more) ≡ front ++ with_parts text at more
  pub written : front ++ flat_map written_for (pieces_from ignore scripts text at)
      ≡ flat_map written_for (pieces_of ignore scripts text)

pub none_yet : (ignore : Bool) (scripts : List Script) (text : List ℕ) → HasParts ignore scripts text [] 0
none_yet ignore scripts text = record { front = []; parts_are = λ more. refl; written = refl }

pub one_more : (ignore : Bool) (scripts : List Script) (text : List ℕ) (parts : List Part) (at start : ℕ)
    (o : Occurrence) → pieces_from ignore scripts text at ≡ map byte (slice_range text at start)
    ++ found o (slice_range text start (start + o.width)) ∷ pieces_from ignore scripts text (start + o.width)
    → HasParts ignore scripts text parts at
    → HasParts ignore scripts text (parts ++ record {
      start = start;
      end = start + o.width;
      text = option_and_then origin_text (origin_at o.map o.line o.column);
    } ∷ []) (start + o.width)
one_more ignore scripts text parts at start o split h =
    let next = start + o.width in
    let piece : Piece = found o (slice_range text start next) in
    let part : Part = record {
      start = start;
      end = next;
      text = option_and_then origin_text (origin_at o.map o.line o.column);
    } in
    let between = slice_range text at start in
    record {
      front = (h.front ++ between) ++ written_for piece;
      parts_are = λ more.
          let rest = with_parts text next more in
          let text_of = written_for piece in
          ap (with_parts text 0) (append_assoc parts (part ∷ []) more) ∙ h.parts_are (part ∷ more)
          ∙ sym (append_assoc (h.front ++ between) text_of rest
          ∙ append_assoc h.front between (text_of ++ rest)
          ∙ ap (λ (xs : List ℕ). h.front ++ xs) (sym (append_assoc between text_of rest)));
      written = written_on (pieces_from ignore scripts text at) (pieces_from ignore scripts text next) between
          piece split h.front (h.front ++ between) ((h.front ++ between) ++ written_for piece)
          (flat_map written_for (pieces_of ignore scripts text)) refl refl h.written;
    }

pub all_parts : (ignore : Bool) (scripts : List Script) (text : List ℕ) (parts : List Part) (at : ℕ)
    → pieces_from ignore scripts text at ≡ map byte (drop at text) → HasParts ignore scripts text parts at
    → with_parts text 0 parts ≡ flat_map written_for (pieces_of ignore scripts text)
all_parts ignore scripts text parts at rest h =
    ap (with_parts text 0) (sym (append-nil parts)) ∙ h.parts_are []
    ∙ written_all (pieces_from ignore scripts text at) (drop at text) h.front (h.front ++ drop at text)
    (flat_map written_for (pieces_of ignore scripts text)) rest refl h.written

-- what is written for the pieces is what the line becomes
pub pieces_shown : (ignore : Bool) (scripts : List Script) (text : List ℕ)
    → flat_map written_for (pieces_of ignore scripts text)
    ≡ shown (anywhere_fate ignore scripts false text) text
pieces_shown ignore scripts text = grind (
  arith,
  not_hidden ignore scripts text,
  kept_pieces (pieces_of ignore scripts text),
  pieces_joined ignore scripts [] 0 text,
)

-- ---- the position of a frame

cut_text : (text before after : List ℕ) (t : Option (List ℕ)) (start end : ℕ) (position : List ℕ)
    → text ≡ before ++ position ++ after → start ≡ length before → end ≡ length text - length after
    → slice_range text start end ≡ position
    → with_parts text 0 (record { start = start; end = end; text = t } ∷ [])
    ≡ before ++ unwrap_or t position ++ after
cut_text text before after t start end position is from to there =
    let whole : text ≡ before ++ (position ++ after) = is ∙ append_assoc before position after in
    let size : start - 0 ≡ length before = omega (arith, from) in
    let first : slice_range text 0 start ≡ before =
    ap (λ (n : ℕ). take n text) size ∙ ap (take (length before)) whole
    ∙ take-append_seam before (position ++ after) in
    let long : length text ≡ length (before ++ position) + length after =
    ap length is ∙ length-append (before ++ position) after in
    let both : end ≡ length (before ++ position) = omega (arith, long, to) in
    let last : drop end text ≡ after =
    ap (λ (n : ℕ). drop n text) both ∙ ap (drop (length (before ++ position))) is
    ∙ drop-append_seam (before ++ position) after in
    rw (first, there, last) refl

-- the position of a frame in the script of this map
pub frame_shown : (text : List ℕ) (f : FrameParts) (r : Record) (start end : ℕ) → IsFrame text f
    → start ≡ length f.before → end ≡ length text - length f.after
    → with_parts text 0 (record {
      start = start;
      end = end;
      text = option_and_then origin_text (origin_at r f.line f.column);
    } ∷ []) ≡ shown (fate_in false f r) text
frame_shown text f r start end is from to =
    cut_text text f.before f.after (option_and_then origin_text (origin_at r f.line f.column)) start end
    position
    is.whole from to (rw (from, to) (position_there text f is)) ∙ go (origin_at r f.line f.column)
  where
    position : List ℕ
    position = position_text f.url f.line f.column

    by_url : (url : Option (List ℕ)) (line column : ℕ)
        → f.before ++ unwrap_or (option_map (λ u. position_text u (line + 1) (column + 1)) url) position
        ++ f.after
        ≡ shown (option_map_or
        (λ u. translated (f.before ++ position_text u (line + 1) (column + 1) ++ f.after)) url kept) text
    by_url None line column = sym is.whole
    by_url (Some u) line column = refl

    go : (o : Option Origin) → f.before ++ unwrap_or (option_and_then origin_text o) position ++ f.after
        ≡ shown (option_map_or (fate_at false f) o kept) text
    go None = sym is.whole
    go (Some o) = by_url o.source.url o.line o.column
