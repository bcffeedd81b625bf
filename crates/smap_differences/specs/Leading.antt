-- Positions that lead elsewhere in another map.
use Rattle.std.specs.Prelude.{ℕ, ◌+◌, ◌==◌, ◌&&◌, ◌||◌, Bool, true, false, not, List, filter, find, length}
use Rattle.std.specs.Prelude.{◌-◌, ◌^◌, min, nat_lt, if◌then◌else◌, option_and_then, option_map}
use Rattle.std.specs.Prelude.{Option, None, Some, is_some, slice_get}
use Rattle.std.specs.List.{range_with_len}
use Rattle.std.specs.Option.{option_eq, option_map_or}
use Rattle.smap_record.specs.Record.{Mapping, Origin, Record, same_text}
use Rattle.smap_trace.specs.Lookup.{mapping_at}

-- Originals are one place if their sources' URLs, lines, columns and names are equal.
abbrev pub same_place : Origin → Origin → Bool
same_place o p = same_text o.source.url p.source.url
    && (o.line == p.line && (o.column == p.column && same_text o.name p.name))

-- A mapping leads elsewhere than what a lookup finds for its position in another map. Whether those count
-- whose positions have mappings of their own there is asked for.
abbrev pub leaves : Bool → Mapping → Option Mapping → Bool
leaves shared m None = is_some m.origin
leaves shared m (Some n) =
    not (option_eq same_place m.origin n.origin) && (shared || not (n.column == m.column))

abbrev pub is_elsewhere : Bool → Record → Mapping → Bool
is_elsewhere shared other m = leaves shared m (mapping_at other.mappings m.line m.column)

-- A lookup finds the last of several mappings at one position: the others don't count.
abbrev pub are_apart : Option Mapping → Option Mapping → Bool
are_apart None o = true
are_apart (Some m) None = true
are_apart (Some m) (Some n) = not (m.line == n.line && m.column == n.column)

abbrev pub is_last : List Mapping → ℕ → Bool
is_last ms i = are_apart (slice_get ms i) (slice_get ms (i + 1))

abbrev pub counts : Bool → Record → Record → ℕ → Bool
counts shared r other i =
    is_last r.mappings i && option_map_or (is_elsewhere shared other) (slice_get r.mappings i) false

abbrev pub numbers : Record → List ℕ
numbers r = range_with_len 0 (length r.mappings)

-- how many of a map's positions lead elsewhere in another one, and the first of their mappings
abbrev pub count_in : Bool → Record → Record → ℕ
count_in shared r other = length (filter (counts shared r other) (numbers r))

abbrev pub first_in : Bool → Record → Record → Option ℕ
first_in shared r other = find (counts shared r other) (numbers r)

-- Those of both, as far as 64 bits hold it: a position at which both have mappings counts once.
abbrev pub count : Record → Record → ℕ
count old new = min (count_in true old new + count_in false new old) (2 ^ 64 - 1)

-- where a mapping is
abbrev pub Place : Type 0
Place = ℕ × ℕ

abbrev pub place_in : Record → Option ℕ → Option Place
place_in r number =
    option_and_then (λ i. option_map (λ m. (m.line, m.column)) (slice_get r.mappings i)) number

abbrev pub is_before : Place → Place → Bool
is_before p q = nat_lt p.0 q.0 || (p.0 == q.0 && nat_lt p.1 q.1)

abbrev pub earlier : Option Place → Option Place → Option Place
earlier None o = o
earlier (Some p) None = Some p
earlier (Some p) (Some q) = Some (if is_before q p then q else p)

-- the first of all
abbrev pub first : Record → Record → Option Place
first old new = earlier (place_in old (first_in true old new)) (place_in new (first_in false new old))
