-- Frames that name no script, as JavaScriptCore and Hermes write them of a script without a URL: `f@1:32`.
-- This project's own rules.
use Rattle.std.specs.Prelude.{ℕ, ◌+◌, ◌==◌, ◌&&◌, ◌||◌, Bool, false, not, List, ◌∷◌, ◌++◌}
use Rattle.std.specs.Prelude.{bytes_eq, codes, cond, drop, nat_eq, take, Option, None, Some}
use Rattle.std.specs.List.{prefix_len, starts_with}
use Rattle.std.specs.Option.{option_map_or}
use Rattle.smap_frames.specs.Frame.{FrameParts}
use Rattle.smap_frames.specs.Reading.{frame_of}
use Rattle.smap_trace.specs.Scripts.{Script}
use Rattle.smap_trace.specs.Translation.{Fate, fate_found, frame_fate, without_line_feed}
use Rattle.smap_trace.specs.declared.match_mode.MatchMode.{MatchMode}

-- a space, a slash, a colon or an `@`, which the name of a function doesn't hold here
abbrev pub ends_function : ℕ → Bool
ends_function b = b == 32 || b == 47 || b == 58 || b == 64

-- how many bytes a name without these takes at the beginning of a line
abbrev pub name_len : List ℕ → ℕ
name_len text = prefix_len (λ b. not (ends_function b)) text

-- the same with ` code`, as in `global code@1:2`, which is no function
abbrev pub function_len : List ℕ → ℕ
function_len text = cond (starts_with nat_eq (drop (name_len text) text) (codes " code@"))
    (name_len text + 5) (name_len text)

-- the line with a URL and a colon behind that name and one byte more
abbrev pub with_url : List ℕ → List ℕ → List ℕ
with_url url text = take (function_len text + 1) text ++ (url ++ 58 ∷ drop (function_len text + 1) text)

abbrev pub is_of : List ℕ → FrameParts → Bool
is_of url f = bytes_eq f.url url

-- Whether a line without its line feed is such a frame: a name or none, `@`, and LINE:COLUMN, so that with a
-- script's URL it is a frame of that script.
abbrev pub is_unnamed : List ℕ → List ℕ → Bool
is_unnamed url text = starts_with nat_eq (drop (function_len text) text) (codes "@")
    && option_map_or (is_of url) (frame_of (with_url url text)) false

-- the frame that it is then
abbrev pub named_frame : List ℕ → List ℕ → Option (List ℕ)
named_frame url text = cond (is_unnamed url text) (Some (with_url url text)) None

-- What becomes of a line without its line feed where the script with this URL is meant in such frames; none
-- is by the empty URL.
abbrev pub fate_named : List ℕ → MatchMode → List Script → Bool → List ℕ → Fate
fate_named url mode scripts hide text =
    option_map_or (frame_fate mode.ignore_query scripts hide) (named_frame url text)
    (fate_found mode scripts hide text)

-- the same of a line that may have its line feed
abbrev pub fate_alone : List ℕ → MatchMode → List Script → Bool → List ℕ → Fate
fate_alone url mode scripts hide line = fate_named url mode scripts hide (without_line_feed line)
