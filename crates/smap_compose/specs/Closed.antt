-- For private contracts: the links of a chain that are closed already, from the last one on.
use Rattle.std.specs.Prelude.{◌≡◌, ℕ, ◌<◌, List, length, map, bytes_eq, drop, slice_get, unwrap_or, false}
use Rattle.std.specs.Prelude.{Bool, Option, IfSome, option_and_then}
use Rattle.std.specs.Map.{lookup}
use denote.Ref.{Bor}
use Rattle.smap_record.specs.Record.{Entry, Record, record_of}
use Rattle.smap_trace.specs.LineStarts.{line_starts}
use Rattle.smap_compose.specs.Chain.{Link, closed, is_of, led_to, unled, unled_from}
use Rattle.std.specs.List.{list_any}
use Rattle.smap_compose.specs.declared.chain.Closed.{Closed}

-- what a table has for a text
abbrev pub found_in : {V : Type 0} → List (Bor (List ℕ) × V) → List ℕ → Option V
found_in rows text = lookup (λ k. bytes_eq text k.now) rows

-- the number that a table has for the URL of a source
abbrev pub number_in : List (Bor (List ℕ) × ℕ) → Entry → Option ℕ
number_in rows e = option_and_then (found_in rows) e.url

-- They are these links, each composed with the later ones, with the tables of their lines and their numbers.
pub record AreClosed (links : List Link) (c : Closed) : Type 0 where
  pub tables : c.tables.items ≡ map (λ m. line_starts (record_of m).mappings) c.maps.items
  pub within : (text : List ℕ) → IfSome (found_in c.numbers.entries text) (λ k. k < length c.maps.items)
  pub led : (e : Entry) → option_and_then (slice_get (map record_of c.maps.items))
      (number_in c.numbers.entries e) ≡ led_to (closed links) e

-- whether a source of this URL waits for its map
abbrev pub is_open : List (Bor (List ℕ) × Bool) → List ℕ → Bool
is_open rows text = unwrap_or (found_in rows text) false

-- The table has the URLs of these sources.
abbrev pub AreOpen : List (Bor (List ℕ) × Bool) → List Entry → Type 0
AreOpen rows es = (text : List ℕ) → is_open rows text ≡ list_any (is_of text) es

-- To each of the first n links a source leads, and the table has those that lead to none of them.
pub record LeadsSoFar (r : Record) (links : List Link) (n : ℕ) (rows : List (Bor (List ℕ) × Bool))
    : Type 0 where
  pub waiting : List Entry
  pub are : AreOpen rows waiting
  pub left : unled_from n waiting (drop n links) ≡ unled r links
