-- A frame that gets the name of a function stays one. This project's own rules.
use Rattle.std.specs.Prelude.{◌≡◌, ℕ, ◌<◌, ◌++◌, true, List, length, IfSome, IsTrue, Option}
use Rattle.smap_frames.specs.Frame.{FrameParts, IsFirefox, IsFrame, IsPlace, IsV8, lacks, position_text}
use Rattle.smap_functions.specs.Renaming.{renamed_after, renamed_before}
use Rattle.smap_functions.specs.Words.{is_word}

-- what a translation puts in the place of a frame's position
pub record IsPut (url : List ℕ) (line column : ℕ) : Type 0 where
  pub some_url : 0 < length url
  pub no_space : lacks 32 url ≡ true
  pub one_line : lacks 10 url ≡ true
  pub line_place : IsPlace line
  pub column_place : IsPlace column

-- the frame with the name of a function, at this position
abbrev pub renamed_frame : FrameParts → Option (List ℕ) → List ℕ → List ℕ → ℕ → ℕ → FrameParts
renamed_frame f class word url line column = record {
  before = renamed_before f.before class word;
  url = url;
  line = line;
  column = column;
  after = renamed_after f.before f.after;
}

abbrev pub text_of : FrameParts → List ℕ
text_of f = f.before ++ position_text f.url f.line f.column ++ f.after

-- it is a frame, of the form that it had
pub record Stays (f g : FrameParts) : Type 0 where
  pub is_frame : IsFrame (text_of g) g
  pub v8 : IsV8 f → IsV8 g
  pub firefox : IsFirefox f → IsFirefox g

-- A frame that gets the name of a function, a word, perhaps behind that of its class, and a position, stays a
-- frame, of the same form, with this position.
abbrev pub RenamedStaysAFrame : Type 0
RenamedStaysAFrame = (text : List ℕ) (f : FrameParts) (class : Option (List ℕ)) (word url : List ℕ)
    (line column : ℕ) → IsFrame text f → IsTrue (is_word word) → IfSome class (λ c. IsTrue (is_word c))
    → IsPut url line column → Stays f (renamed_frame f class word url line column)
