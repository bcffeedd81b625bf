-- Spans of a line.
use Rattle.std.specs.Prelude.{◌≡◌, ℕ, zero, suc, ◌+◌, ◌<◌, ◌≤◌, ◌==◌, ◌&&◌, Bool, false, cond, List, [], ◌∷◌}
use Rattle.std.specs.Prelude.{◌++◌, codes, drop, length, nat_eq, nat_le, nat_lt, slice_index, IfSome, Option}
use Rattle.std.specs.Prelude.{None, Some}
use Rattle.std.specs.Char.{is_ascii_digit}
use Rattle.std.specs.List.{All, list_any, prefix_len, slice_get, starts_with}
use Rattle.std.specs.Option.{option_map, option_map_or}
use Rattle.smap_logs.specs.Beginnings.{apart, beginnings, last, path_start}
use Rattle.smap_logs.specs.declared.runs.Place.{Place}
use Rattle.smap_logs.specs.declared.runs.Run.{Run}
use Rattle.smap_logs.specs.declared.spans.Span.{Span}

-- how many digits stand behind this byte of a line
abbrev pub digits_behind : List ℕ → ℕ → ℕ
digits_behind line at = prefix_len is_ascii_digit (drop (at + 1) line)

-- where the number ends whose colon stands here
abbrev pub number_end : List ℕ → ℕ → Option ℕ
number_end line colon = cond (slice_index line colon == 58 && nat_lt 0 (digits_behind line colon))
    (Some (colon + 1 + digits_behind line colon)) None

abbrev pub place : ℕ → ℕ → Place
place start end = record { start = start; end = end }

-- The positions of a run that goes on here, behind a number that begins before: each number and the one
-- behind it. The first number bounds how many there are.
abbrev pub places_behind : ℕ → List ℕ → ℕ → ℕ → List Place
places_behind zero line before at = []
places_behind (suc n) line before at =
    option_map_or (λ end. place before end ∷ places_behind n line at end) (number_end line at) []

-- where a run ends that goes on here
abbrev pub run_end : ℕ → List ℕ → ℕ → ℕ
run_end zero line at = at
run_end (suc n) line at = option_map_or (λ end. run_end n line end) (number_end line at) at

-- of these positions the first, and the last if it is another
abbrev pub run_of : List Place → ℕ → Run
run_of places end = record { first = slice_get places 0; last = last (drop 1 places); end = end }

-- a run with one more position
abbrev pub with_first : Option Place → Place → Run
with_first None new = record { first = Some new; last = None; end = new.end }
with_first (Some old) new = record { first = Some old; last = Some new; end = new.end }

abbrev pub with_place : Run → Place → Run
with_place run new = with_first run.first new

-- the run behind its first number
abbrev pub run_behind : ℕ → List ℕ → ℕ → ℕ → Run
run_behind n line start first_end = run_of (places_behind n line start first_end) (run_end n line first_end)

-- the run that begins here, if a number does
abbrev pub run_at : List ℕ → ℕ → Option Run
run_at line start = option_map (λ end. run_behind (length line) line start end) (number_end line start)

abbrev pub is_place : Option ℕ → ℕ → Bool
is_place None start = false
is_place (Some at) start = at == start

-- the span that begins here, if one does and none of the others does
abbrev pub span_if : Place → Option ℕ → List (Option ℕ) → List Span
span_if place None others = []
span_if place (Some at) others = cond (list_any (λ other. is_place other at) others) []
    (record { start = at; url_end = place.start; end = place.end } ∷ [])

-- where the path with spaces begins before a position that a parenthesis closes
abbrev pub path_before : List ℕ → Place → Option ℕ
path_before line place =
    cond (starts_with nat_eq (drop place.end line) (codes ")")) (path_start line place.start) None

-- the spans of one position
abbrev pub spans_at : List ℕ → Place → List Span
spans_at line place = let found = apart line (beginnings line place.start) in
    span_if place found.nearest []
    ++ (span_if place found.scheme (found.nearest ∷ [])
    ++ (span_if place found.root (found.nearest ∷ found.scheme ∷ [])
    ++ (span_if place found.farthest (found.nearest ∷ found.scheme ∷ found.root ∷ [])
    ++ span_if place (path_before line place)
    (found.nearest ∷ found.scheme ∷ found.root ∷ found.farthest ∷ []))))

abbrev pub spans_if : List ℕ → Option Place → List Span
spans_if line None = []
spans_if line (Some place) = spans_at line place

-- the spans of one run
abbrev pub spans_of : List ℕ → Run → List Span
spans_of line run = spans_if line run.first ++ spans_if line run.last

-- The spans of a line from here on. The first number bounds how many runs and bytes between runs there are.
abbrev pub spans_from : ℕ → List ℕ → ℕ → List Span
spans_from zero line at = []
spans_from (suc n) line at = cond (nat_le (length line) at) []
    (option_map_or (λ run. spans_of line run ++ spans_from n line run.end) (run_at line at)
    (spans_from n line (at + 1)))

-- the spans of a line, which has no more runs and bytes between them than bytes
abbrev pub spans : List ℕ → List Span
spans line = spans_from (length line) line 0

-- the place lies in a line of this length
abbrev pub IsPlaceIn : ℕ → Place → Type 0
IsPlaceIn len place = (place.start < place.end) × (place.end ≤ len)

-- the places of a run lie in a line of this length, and the run ends in it
pub record IsRunIn (len : ℕ) (run : Run) : Type 0 where
  pub first : IfSome run.first (IsPlaceIn len)
  pub last : IfSome run.last (IsPlaceIn len)
  pub within : run.end ≤ len

-- its URL and its position have bytes, and it lies in a line of this length
abbrev pub IsSpanIn : ℕ → Span → Type 0
IsSpanIn len span = (span.start < span.url_end) × (span.url_end < span.end) × (span.end ≤ len)

-- the second list is the first and such spans behind it
pub record AddsSpans (len : ℕ) (before after : List Span) : Type 0 where
  pub added : List Span
  pub is : after ≡ before ++ added
  pub within : All (IsSpanIn len) added
