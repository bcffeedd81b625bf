-- Frames that name no script, as `f@1:32`: if one map is given in all, and by its file, its script is meant.
use Rattle.std.specs.Prelude.{◌≡◌, ℕ, ◌+◌, ◌==◌, ◌&&◌, Bool, List, ◌++◌, cond, flat_map, length}
use Rattle.std.specs.Prelude.{Option, None, Some, option_map}
use Rattle.std.specs.Global.{Vec}
use Rattle.std.specs.List.{slice_get}
use Rattle.std.specs.Option.{option_map_or}
use Rattle.smap_map_files.specs.declared.wanted.Wanted.{Wanted}
use Rattle.smap_trace.specs.Translation.{Fate, Script, fate_by, feed_of, lines_of, without_line_feed}
use Rattle.smap_trace.specs.Unnamed.{fate_alone, named_frame}
use Rattle.smap_trace.specs.declared.match_mode.MatchMode.{MatchMode}
use Rattle.smap_trace_run.specs.declared.alone.LinesRead.{LinesRead}
use Rattle.smap_trace_run.specs.declared.alone.LinesRead.TheVariants.{AsTheyAre, WithNames}

-- one map is given in all, and by its file
abbrev pub is_one_map : Wanted → Bool
is_one_map w = (length w.places.items + length w.files.items == 1) && (length w.positions.scripts.items == 1)

-- the script that is meant then in frames that name none: that of the map
abbrev pub script_alone : Wanted → Option (List ℕ)
script_alone w = cond (is_one_map w) (option_map (λ s. s.items) (slice_get w.positions.scripts.items 0)) None

-- What becomes of a line of a log, where this script is meant in such frames, if one is.
abbrev pub fate_meant : Option (List ℕ) → MatchMode → List Script → Bool → List ℕ → Fate
fate_meant None = fate_by
fate_meant (Some script) = fate_alone script

-- ---- the names that a log has

-- a line, and a frame that names no script with the name of this one
abbrev pub line_with : List ℕ → List ℕ → List ℕ
line_with script line =
    option_map_or (λ named. named ++ feed_of line) (named_frame script (without_line_feed line)) line

-- the same of lines, where a script is meant
abbrev pub lines_with : Option (List ℕ) → List ℕ → List ℕ
lines_with None text = text
lines_with (Some script) text = flat_map (line_with script) (lines_of text)

-- A text of a log in which each frame has a name, by which maps are looked for: its own, or that of the
-- script that is meant.
abbrev pub as_read : Wanted → List ℕ → List ℕ
as_read w text = lines_with (script_alone w) text

-- A line is added so.
abbrev pub TakesLine : List ℕ → Vec ℕ → List ℕ → Vec ℕ → Type 0
TakesLine script before line after = after.items ≡ before.items ++ line_with script line

-- the text that was read
abbrev pub text_in : LinesRead → List ℕ
text_in (AsTheyAre lines) = lines.now
text_in (WithNames text) = text.items
