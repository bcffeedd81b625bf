-- Positions anywhere in a line: `U:L:C`, where U is the URL of a script. This project's own rules.
use Rattle.std.specs.Prelude.{ℕ, zero, suc, ◌+◌, ◌-◌, ◌&&◌, Bool, nat_eq, nat_lt, if◌then◌else◌, List, []}
use Rattle.std.specs.Prelude.{◌∷◌, ◌++◌, length, take, drop, Option, Some, None, option_map}
use Rattle.std.specs.List.{starts_with}
use Rattle.std.specs.Option.{option_map_or}
use Rattle.smap_frames.specs.Places.{may_begin, place_after}
use Rattle.smap_record.specs.Record.{Record}
use Rattle.smap_trace.specs.Scripts.{Script}

-- ---- an occurrence

-- The position of a script in a text: the script's URL, the record of its map, the line and the column, and
-- how many bytes all takes.
pub record Occurrence : Type 0 where
  pub url : List ℕ
  pub map : Record
  pub line : ℕ
  pub column : ℕ
  pub width : ℕ

-- The one of this script at the beginning of the text.
abbrev pub occurrence_of : Bool → Script → List ℕ → Option Occurrence
occurrence_of ignore s text =
    if nat_lt 0 (length s.0) && starts_with nat_eq text s.0 then option_map (λ p. record {
      url = s.0;
      map = s.1;
      line = p.line;
      column = p.column;
      width = length s.0 + p.width;
    }) (place_after ignore (drop (length s.0) text)) else None

-- the one with the longer URL
abbrev pub longer : Option Occurrence → Option Occurrence → Option Occurrence
longer None q = q
longer (Some p) None = Some p
longer (Some p) (Some q) = if nat_lt (length p.url) (length q.url) then Some q else Some p

-- The one with the longest URL at the beginning of the text.
abbrev pub longest : Bool → List Script → List ℕ → Option Occurrence
longest ignore [] text = None
longest ignore (s ∷ ss) text = longer (occurrence_of ignore s text) (longest ignore ss text)

-- The one between these two parts of a line.
abbrev pub occurrence_between : Bool → List Script → List ℕ → List ℕ → Option Occurrence
occurrence_between ignore scripts before text = if may_begin before then longest ignore scripts text else None

-- ---- a line is cut into bytes and occurrences

-- a byte, or an occurrence and its bytes
pub data Piece : Type 0 where
  byte : ℕ → Piece
  found : Occurrence → List ℕ → Piece

abbrev pub bytes_of : Piece → List ℕ
bytes_of (byte b) = b ∷ []
bytes_of (found o text) = text

-- the piece that begins with this byte
abbrev pub piece_at : Option Occurrence → ℕ → List ℕ → Piece
piece_at None b bs = byte b
piece_at (Some o) b bs = found o (take o.width (b ∷ bs))

-- how many bytes behind its first belong to the same piece
abbrev pub more_of : Option Occurrence → ℕ
more_of o = option_map_or (λ p. p.width - 1) o 0

-- The pieces of the rest of a line, from left to right; the first bytes of it may belong to the piece
-- before.
abbrev pub cut : Bool → List Script → List ℕ → ℕ → List ℕ → List Piece
cut ignore scripts before skipped [] = []
cut ignore scripts before (suc n) (b ∷ bs) = cut ignore scripts (before ++ b ∷ []) n bs
cut ignore scripts before zero (b ∷ bs) =
    let o = occurrence_between ignore scripts before (b ∷ bs) in
    piece_at o b bs ∷ cut ignore scripts (before ++ b ∷ []) (more_of o) bs

-- The pieces of a line.
abbrev pub pieces_of : Bool → List Script → List ℕ → List Piece
pieces_of ignore scripts line = cut ignore scripts [] 0 line
