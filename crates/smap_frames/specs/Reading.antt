-- The frame of a line, as a function, by which translation is defined. What a frame is, is said by the
-- relation `IsFrame` in `Frame.antt`; by the law `FrameIsComputed`, `frame_of` gives exactly that frame.
use Rattle.std.specs.Prelude.{ℕ, ◌+◌, ◌-◌, ◌==◌, ◌&&◌, ◌||◌, Bool, not, nat_eq, nat_le, nat_lt}
use Rattle.std.specs.Prelude.{if◌then◌else◌, List, [], ◌∷◌, ◌++◌, length, take, drop, slice_range, codes}
use Rattle.std.specs.Prelude.{decimal, bytes_eq, Option, Some, None, option_map, option_and_then}
use Rattle.std.specs.List.{starts_with, ends_with, after_last, before_last, position_or_len, prefix_len}
use Rattle.std.specs.List.{suffix_len}
use Rattle.std.proofs.Math.Bool.{beq}
use Rattle.std.specs.Option.{option_or}
use Rattle.std.specs.Str.Lines.{strip_carriage_return}
use Rattle.std.specs.Str.Parse.{digits_value}
use Rattle.smap_frames.specs.Frame.{FrameParts, lacks}
use Rattle.smap_frames.specs.Forms.{Form, forms}
use Rattle.smap_mappings.specs.Position.{POSITIONS}

abbrev pub is_colon : ℕ → Bool
is_colon b = b == 58

abbrev pub is_space : ℕ → Bool
is_space b = b == 32

-- the number, if the string is its decimal form and it is in range
abbrev pub place_of : List ℕ → Option ℕ
place_of text = let n = digits_value 10 text in
    if nat_lt 0 n && (nat_le n POSITIONS && bytes_eq (decimal n) text) then Some n else None

-- at least one byte, and no space
abbrev pub is_url : List ℕ → Bool
is_url url = nat_lt 0 (length url) && lacks 32 url

-- the frame whose position is this text, between two parts of a line
abbrev pub framed : List ℕ → List ℕ → List ℕ → Option FrameParts
framed before text after =
    let rest = before_last is_colon text in
    let url = before_last is_colon rest in
    if is_url url then option_and_then (λ l. option_map (λ c. record {
      before = before;
      url = url;
      line = l;
      column = c;
      after = after;
    }) (place_of (after_last is_colon text))) (place_of (after_last is_colon rest)) else None

-- ---- a form

-- how many bytes at the end are no spaces
abbrev pub word_len : List ℕ → ℕ
word_len text = suffix_len (λ b. not (b == 32)) text

-- how many bytes of a text stand before the position, if it is one of the form
abbrev pub lead_len : Form → List ℕ → ℕ
lead_len form text =
    if form.mark == 32 then length text - word_len text + word_len form.opening
    else position_or_len (λ b. b == form.mark) text + 1

-- whether a position of the form may stand behind this
abbrev pub is_lead : Form → List ℕ → Bool
is_lead form lead = ends_with nat_eq lead form.opening
    && (form.named || nat_le (length lead) (length form.opening))

-- where in a text, which stands behind `at ` or not, the position of a frame of this form is
abbrev pub span : Form → Bool → List ℕ → Option (ℕ × ℕ)
span form is_at text =
    let stop = length text - length form.closing in
    let lead = lead_len form (take stop text) in
    if (beq form.behind_at is_at && ends_with nat_eq text form.closing)
    && (nat_le lead stop && is_lead form (take lead text))
    then Some (lead, stop) else None

-- the frame whose position is there in a text
abbrev pub framed_at : List ℕ → List ℕ → List ℕ → ℕ × ℕ → Option FrameParts
framed_at before text after (lead, stop) =
    framed (before ++ take lead text) (slice_range text lead stop) (drop stop text ++ after)

-- the frame of this form that a text is, between two parts of a line
abbrev pub read : Form → Bool → List ℕ → List ℕ → List ℕ → Option FrameParts
read form is_at before text after = option_and_then (framed_at before text after) (span form is_at text)

-- ---- the forms in their order

-- what the first form gives that gives a frame
abbrev pub first_of : (Form → Option FrameParts) → List Form → Option FrameParts
first_of get [] = None
first_of get (form ∷ more) = option_or (get form) (first_of get more)

-- how many bytes the spaces at the start and `at ` behind them take, or 0 if there is no `at `
abbrev pub at_len : List ℕ → ℕ
at_len text =
    let n = prefix_len is_space text in if starts_with nat_eq (drop n text) (codes "at ") then n + 3 else 0

-- the frame of a line without what ends it
abbrev pub body_frame : List Form → List ℕ → List ℕ → Option FrameParts
body_frame rows body after =
    let n = at_len body in
    first_of (λ form. read form (nat_lt 0 n) (take n body) (drop n body) after) rows

-- The frame that the line is, if it is one.
unfoldable pub frame_of : List ℕ → Option FrameParts
frame_of line =
    let n = length (strip_carriage_return line) in
    if lacks 10 line then body_frame forms (take n line) (drop n line) else None

-- for private contracts: what reads a text between two parts of a line, at these places of a line
abbrev pub between : (List ℕ → List ℕ → List ℕ → Option FrameParts) → List ℕ → ℕ → ℕ → Option FrameParts
between read line start end = read (take start line) (slice_range line start end) (drop end line)
