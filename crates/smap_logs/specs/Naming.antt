-- The names that lines of a log have.
use Rattle.std.specs.Prelude.{◌==◌, ◌||◌, ◌<◌, ℕ, not, Option, get_or, Bool, List, [], ◌++◌, bytes_eq, cond}
use Rattle.std.specs.Prelude.{drop, filter, flat_map, length, map, nat_lt, slice_range}
use Rattle.std.specs.Borrow.{Bor}
use Rattle.std.specs.Global.{Vec}
use Rattle.std.specs.List.{Contains, list_any, slice_split}
use Rattle.indexmap.specs.IndexMap.{keys}
use Rattle.smap_system.specs.Held.{GivesHeld, Held}
use Rattle.smap_frames.specs.Places.{query_len}
use Rattle.smap_logs.specs.Lines.{is_feed}
use Rattle.smap_logs.specs.Spans.{spans}
use Rattle.smap_logs.specs.declared.spans.Span.{Span}
use Rattle.smap_link.specs.Paths.{bare_size}
use Rattle.smap_trace.specs.Naming.{urls_of}
use Rattle.smap_logs.specs.Logs.{IsAll}
use Rattle.smap_logs.specs.declared.naming.Names.{Names}

-- those of frames, and the others
abbrev pub frames_of : Names → List (List ℕ)
frames_of names = map (λ name. name.items) (keys names.frames)

abbrev pub others_of : Names → List (List ℕ)
others_of names = map (λ name. name.items) names.others.keys

-- Each of these names is one of those.
abbrev pub AreIn : List (List ℕ) → List (List ℕ) → Type 0
AreIn names others = (name : List ℕ) → Contains names name → Contains others name

-- These names are those, in any order.
abbrev pub AreSame : List (List ℕ) → List (List ℕ) → Type 0
AreSame names others = AreIn names others × AreIn others names

-- ---- others than those of frames

-- what stands behind the path of a URL
abbrev pub behind : List ℕ → List ℕ
behind name = drop (bare_size name) name

-- whether all of it is a query and a fragment, which can be left out
abbrev pub has_plain_query : List ℕ → Bool
has_plain_query name = query_len (behind name) == length (behind name)

-- the text that may be a name since a position follows it
abbrev pub name_in : List ℕ → Span → List ℕ
name_in line span = slice_range line span.start span.url_end

abbrev pub others_in_line : List ℕ → List (List ℕ)
others_in_line line = filter has_plain_query (map (name_in line) (spans line))

-- such texts of lines
abbrev pub others_in : List ℕ → List (List ℕ)
others_in text = flat_map others_in_line (slice_split is_feed text)

-- a control character
abbrev pub is_control : ℕ → Bool
is_control b = nat_lt b 32 || b == 127

-- Whether a text with a position behind it may be looked for. Whoever reads a URL leaves some control
-- characters out, so that a text which holds one would be taken for another name: it is a name only if a
-- script is given by it.
abbrev pub is_sought : List (Vec ℕ) → List ℕ → Bool
is_sought given name = not (list_any is_control name) || list_any (λ g. bytes_eq name g.items) given

-- those of these names that aren't among those
abbrev pub without : List (List ℕ) → List (List ℕ) → List (List ℕ)
without known names = filter (λ name. not (list_any (bytes_eq name) known)) names

-- the others in lines, where positions are looked for anywhere
abbrev pub others_if : Bool → List (List ℕ) → List ℕ → List (List ℕ)
others_if anywhere frames text = cond anywhere (without frames (others_in text)) []

-- ---- the names of lines

-- all of them
abbrev pub names_of : Names → List (List ℕ)
names_of names = frames_of names ++ others_of names

-- what may be looked for of lines: the names of frames, and, where positions are looked for anywhere, other
-- texts
abbrev pub asked_in : Bool → List ℕ → List (List ℕ)
asked_in anywhere text = urls_of text ++ cond anywhere (others_in text) []

-- These are the names of lines: those of frames, and, where positions are looked for anywhere, the others.
pub record AreNamesOf (anywhere : Bool) (text : List ℕ) (names : Names) : Type 0 where
  pub frames : AreSame (frames_of names) (urls_of text)
  pub others : AreSame (others_of names) (others_if anywhere (frames_of names) text)

-- ---- the names of logs

-- All that a reader had was looked through, and the names of its frames were added.
pub record AddsNames (left : Option (List ℕ)) (before after : Names) : Type 0 where
  pub text : List ℕ
  pub all : IsAll left text
  pub frames : AreSame (frames_of after) (frames_of before ++ urls_of text)

-- These have the name of each frame of what the file with this name holds.
pub record HasNamesOf (held : Held) (path : List ℕ) (names : Names) : Type 0 where
  pub left : Option (List ℕ)
  pub text : List ℕ
  pub gives : GivesHeld held path left
  pub all : IsAll left text
  pub frames : AreIn (urls_of text) (frames_of names)

-- The same of the files with these names.
abbrev pub HaveNames : Held → List (Bor (List ℕ)) → Names → Type 0
HaveNames held paths names = (k : ℕ) (d : Bor (List ℕ)) → k < length paths
    → HasNamesOf held (get_or paths k d).now names
