-- A line cut into bytes and positions, as a relation. `pieces_of` in `Anywhere.antt` computes it: by the law
-- `CutIsComputed`, both say the same. This project's own rules.
use Rattle.std.specs.Prelude.{◌≡◌, ◌<◌, ◌≤◌, ℕ, Bool, true, false, List, ◌∷◌, ◌++◌, length, take, flat_map}
use Rattle.std.specs.Prelude.{Some}
use Rattle.std.specs.Char.{is_ascii_digit}
use Rattle.std.specs.List.{list_any}
use Rattle.smap_frames.specs.Places.{IsIgnored, may_begin}
use Rattle.smap_frames.specs.Frame.{IsPlace, position_text}
use Rattle.smap_trace.specs.Anywhere.{Occurrence, Piece, byte, bytes_of, found}
use Rattle.smap_trace.specs.Scripts.{Script, map_of}

-- The text is a position `U:L:C` of a script with the URL U, where line and column are written as in frames.
pub record IsOccurrence (ignore : Bool) (scripts : List Script) (o : Occurrence) (text : List ℕ)
    : Type 0 where
  pub query : List ℕ
  pub of_script : map_of scripts o.url ≡ Some o.map
  pub some_url : 0 < length o.url
  pub ignored : IsIgnored ignore query
  pub line_place : IsPlace o.line
  pub column_place : IsPlace o.column
  pub text_is : text ≡ position_text (o.url ++ query) o.line o.column
  pub width_is : o.width ≡ length text

-- It stands between these two parts of a line: a URL may begin behind the first, and no digit follows.
abbrev pub StandsBetween : Bool → List Script → List ℕ → Occurrence → List ℕ → List ℕ → Type 0
StandsBetween ignore scripts before o text after = (may_begin before ≡ true)
    × IsOccurrence ignore scripts o text × (list_any is_ascii_digit (take 1 after) ≡ false)

-- What a piece is between the parts of the line before and after it: a byte at which no position begins, or
-- of the positions that begin there the one with the longest URL.
abbrev pub IsPieceBetween : Bool → List Script → List ℕ → Piece → List ℕ → Type 0
IsPieceBetween ignore scripts before (byte b) after = (o : Occurrence) (text rest : List ℕ)
    → b ∷ after ≡ text ++ rest → StandsBetween ignore scripts before o text rest → ⊥
IsPieceBetween ignore scripts before (found o text) after = StandsBetween ignore scripts before o text after
    × ((p : Occurrence) (other rest : List ℕ) → text ++ after ≡ other ++ rest
    → StandsBetween ignore scripts before p other rest → length p.url ≤ length o.url)

-- The pieces, joined, are the line, and each of them is one between what is before and after it.
abbrev pub IsCut : Bool → List Script → List ℕ → List Piece → Type 0
IsCut ignore scripts line pieces = (flat_map bytes_of pieces ≡ line)
    × ((front back : List Piece) (piece : Piece) → pieces ≡ front ++ piece ∷ back
    → IsPieceBetween ignore scripts (flat_map bytes_of front) piece (flat_map bytes_of back))
