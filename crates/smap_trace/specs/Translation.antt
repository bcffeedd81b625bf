-- The translation of a trace: the positions of its frames are replaced by those of the sources. This
-- project's own rules.
use Rattle.std.specs.Prelude.{ℕ, ◌+◌, ◌-◌, ◌==◌, ◌&&◌, Bool, true, false, if◌then◌else◌}
use Rattle.std.specs.Prelude.{List, [], ◌++◌, length, flat_map, slice_range}
use Rattle.std.specs.Prelude.{Option, Some, None, option_map, option_and_then, unwrap_or}
use Rattle.std.specs.List.{list_any}
use Rattle.std.specs.Option.{is_some, option_map_or}
use Rattle.smap_frames.specs.Frame.{FrameParts, position_text}
use Rattle.smap_frames.specs.Reading.{frame_of}
use Rattle.smap_record.specs.Record.{Origin, Record}
use Rattle.smap_trace.specs.Anywhere.{Piece, byte, bytes_of, found, longest, pieces_of}
use Rattle.smap_trace.specs.Lookup.{mapping_at}
pub use Rattle.smap_io.specs.Lines.{feed_of, has_line_feed, lines_of, without_line_feed}
pub use Rattle.smap_trace.specs.Scripts.{Script, AreDistinct, map_of}
use Rattle.smap_trace.specs.declared.match_mode.MatchMode.{MatchMode}

-- The original of the mapping that a position has. A trace counts from 1, a map from 0.
abbrev pub origin_at : Record → ℕ → ℕ → Option Origin
origin_at r line column = option_and_then (λ m. m.origin) (mapping_at r.mappings (line - 1) (column - 1))

-- What becomes of a line: it is passed through unchanged, or its position is replaced, or it is left out.
pub data Fate : Type 0 where
  kept : Fate
  translated : List ℕ → Fate
  dropped : Fate

-- whether its position was replaced, and whether it was left out
abbrev pub is_translated : Fate → Bool
is_translated kept = false
is_translated (translated text) = true
is_translated dropped = false

abbrev pub is_dropped : Fate → Bool
is_dropped kept = false
is_dropped (translated text) = false
is_dropped dropped = true

-- of a frame whose mapping has this original
abbrev pub fate_at : Bool → FrameParts → Origin → Fate
fate_at hide f o = if hide && o.source.ignored then dropped
    else option_map_or
    (λ url. translated (f.before ++ position_text url (o.line + 1) (o.column + 1) ++ f.after))
    o.source.url kept

-- of a frame in the script of this map
abbrev pub fate_in : Bool → FrameParts → Record → Fate
fate_in hide f r = option_map_or (fate_at hide f) (origin_at r f.line f.column) kept

-- of a line without its line feed: `frame_of` gives the frame that the line is by `IsFrame`, if it is one
-- (law `FrameIsComputed`)
abbrev pub fate_of : List Script → Bool → List ℕ → Fate
fate_of scripts hide text =
    option_map_or (λ f. option_map_or (fate_in hide f) (map_of scripts f.url) kept) (frame_of text) kept

-- ---- the same with other ways of finding positions

-- The map of the script that a frame names. If queries are ignored, the script's URL may be followed by one
-- up to the frame's line and column.
abbrev pub map_for : Bool → List Script → List ℕ → FrameParts → Option Record
map_for false scripts text f = map_of scripts f.url
map_for true scripts text f =
    let position = slice_range text (length f.before) (length text - length f.after) in
    option_and_then (λ o. if o.width == length position then Some o.map else None)
    (longest true scripts position)

-- of a line whose position is found if the line is a frame
abbrev pub frame_fate : Bool → List Script → Bool → List ℕ → Fate
frame_fate ignore scripts hide text = option_map_or
    (λ f. option_map_or (fate_in hide f) (map_for ignore scripts text f) kept) (frame_of text) kept

-- the text of an original's position, if its source has a URL
abbrev pub origin_text : Origin → Option (List ℕ)
origin_text origin =
    option_map (λ url. position_text url (origin.line + 1) (origin.column + 1)) origin.source.url

-- what a piece of a line is replaced with, if it is: a position whose mapping has a source with a URL
abbrev pub replaced : Piece → Option (List ℕ)
replaced (byte b) = None
replaced (found o text) = option_and_then origin_text (origin_at o.map o.line o.column)

-- what is written for a piece
abbrev pub written_for : Piece → List ℕ
written_for piece = unwrap_or (replaced piece) (bytes_of piece)

-- whether a piece is replaced
abbrev pub is_replaced : Piece → Bool
is_replaced piece = is_some (replaced piece)

-- of a line that is cut into such pieces
abbrev pub fate_of_pieces : List Piece → Fate
fate_of_pieces pieces =
    if list_any is_replaced pieces then translated (flat_map written_for pieces) else kept

-- of a line in which positions are found anywhere; what is left out is what is left out of frames
abbrev pub anywhere_fate : Bool → List Script → Bool → List ℕ → Fate
anywhere_fate ignore scripts hide text = if is_dropped (frame_fate ignore scripts hide text) then dropped
    else fate_of_pieces (pieces_of ignore scripts text)

-- of a line without its line feed, by that way of finding
abbrev pub fate_found : MatchMode → List Script → Bool → List ℕ → Fate
fate_found mode scripts hide text = if mode.anywhere
    then anywhere_fate mode.ignore_query scripts hide text
    else frame_fate mode.ignore_query scripts hide text

-- ---- a line has its line feed, except perhaps the last

-- what becomes of the line
abbrev pub fate : List Script → Bool → List ℕ → Fate
fate scripts hide line = fate_of scripts hide (without_line_feed line)

-- what is written for it
abbrev pub written : Fate → List ℕ → List ℕ
written kept line = line
written (translated text) line = text ++ feed_of line
written dropped line = []

-- The translation of a line. One that holds a line feed before its end isn't a frame, and is kept.
abbrev pub line_translation : List Script → Bool → List ℕ → List ℕ
line_translation scripts hide line = written (fate scripts hide line) line

-- The same by a way of finding.
abbrev pub fate_by : MatchMode → List Script → Bool → List ℕ → Fate
fate_by mode scripts hide line = fate_found mode scripts hide (without_line_feed line)

-- The translation of a line that becomes this.
abbrev pub line_translation_by : (List ℕ → Fate) → List ℕ → List ℕ
line_translation_by fates line = written (fates line) line

-- ---- a trace

-- The translations of its lines, one after another.
abbrev pub translation : List Script → Bool → List ℕ → List ℕ
translation scripts hide trace = flat_map (line_translation scripts hide) (lines_of trace)

-- The same where each line becomes this.
abbrev pub translation_by : (List ℕ → Fate) → List ℕ → List ℕ
translation_by fates trace = flat_map (line_translation_by fates) (lines_of trace)
