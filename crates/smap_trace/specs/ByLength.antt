-- For private contracts: scripts by the lengths and the first bytes of their URLs.
use Rattle.std.specs.Prelude.{ℕ, Bool, ◌+◌, ◌&&◌, ◌||◌, ◌≡◌, true, List, take, drop, get_or, length, nat_eq}
use Rattle.std.specs.Prelude.{nat_le, nat_lt}
use Rattle.std.specs.Prelude.{if◌then◌else◌, Option, None, option_map, option_and_then}
use Rattle.std.specs.List.{All, list_any}
use Rattle.smap_frames.specs.Places.{place_after}
use Rattle.smap_frames.specs.declared.places.Place.{Place}
use Rattle.smap_record.specs.Record.{Record}
use Rattle.smap_trace.specs.Anywhere.{Occurrence}
use Rattle.smap_trace.specs.Scripts.{Script, map_of}

-- the occurrence of this URL and this place behind it
abbrev pub found_at : List ℕ → Place → Record → Occurrence
found_at url p map = record {
  url = url;
  map = map;
  line = p.line;
  column = p.column;
  width = length url + p.width;
}

-- The occurrence at the beginning of the text of the script whose URL is the first so many bytes of it.
abbrev pub at_length : Bool → List Script → List ℕ → ℕ → Option Occurrence
at_length ignore scripts text n = if nat_lt 0 n && nat_le n (length text) then
    option_and_then (λ p. option_map (found_at (take n text) p) (map_of scripts (take n text)))
    (place_after ignore (drop n text)) else None

abbrev pub is_among : List ℕ → ℕ → Bool
is_among ns n = list_any (λ m. nat_eq m n) ns

-- the length of each script's URL is among these
abbrev pub AreLengthsOf : List ℕ → List Script → Type 0
AreLengthsOf lengths scripts = All (λ s. is_among lengths (length s.0) ≡ true) scripts

-- each script's URL is empty or begins with one of these bytes
abbrev pub AreFirstsOf : List ℕ → List Script → Type 0
AreFirstsOf firsts scripts =
    All (λ s. (nat_eq (length s.0) 0 || is_among firsts (get_or s.0 0 0)) ≡ true) scripts
