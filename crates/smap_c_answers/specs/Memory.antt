-- How much memory a map takes, about: the blocks that malloc has for its strings, and its lists with the room
-- that they have, as measured where pointers have 64 bits.
use Rattle.std.specs.Prelude.{ℕ, zero, suc, ◌+◌, ◌-◌, ◌*◌, ◌/◌, ◌^◌, ◌==◌, if◌then◌else◌, nat_le, nat_lt}
use Rattle.std.specs.Prelude.{List, [], ◌∷◌, Option, Some, None, length, min, slice_get, sum_by}
use Rattle.std.specs.Int.{div_ceil}
use Rattle.url.specs.Parts.{Parts, serialize}
use Rattle.smap_mappings.specs.Text.{line_count}
use Rattle.smap_shape.specs.Labels.{named}
use Rattle.smap_record.specs.Record.{Entry, ReadMap, record_of, same_text}
use Rattle.smap_record.specs.Written.{Spelling}

-- as much as a number of C takes
abbrev pub capped : ℕ → ℕ
capped n = min n (2 ^ 64 - 1)

-- ---- strings

-- The block for n bytes: none for none, at least 24 bytes, and always 8 more than a multiple of 16.
abbrev pub block : ℕ → ℕ
block n = if n == 0 then 0 else if nat_le n 24 then 24 else 16 * ((n - 9) / 16) + 24

abbrev pub text_memory : Option (List ℕ) → ℕ
text_memory None = 0
text_memory (Some text) = block (length text)

-- ---- lists

-- twice the room that is too small for n things
abbrev pub grown : ℕ → ℕ → ℕ
grown n room = if nat_lt room n then room + room else room

-- the room after k times
unfoldable pub doubled : ℕ → ℕ → ℕ → ℕ
doubled first n zero = first
doubled first n (suc k) = grown n (doubled first n k)

-- The room of a list to which n things were added one by one: `first`, doubled until they fit. No map has
-- 2 ^ 32 of anything.
abbrev pub room : ℕ → ℕ → ℕ
room first n = if n == 0 then 0 else doubled first n 32

-- ---- a map

abbrev pub source_memory : Entry → ℕ
source_memory e = text_memory e.url + text_memory e.content

abbrev pub name_memory : List ℕ → ℕ
name_memory name = block (length name)

abbrev pub label_memory : List ℕ × Option (List ℕ) → ℕ
label_memory label = text_memory label.1

-- The strings of a map: its labels, its distinct sources, and its names as listed.
abbrev pub strings_memory : ReadMap → ℕ
strings_memory m = sum_by label_memory (named m.labels)
    + (sum_by source_memory (record_of m).sources + sum_by name_memory m.listing.names)

-- Its lists: the distinct sources in a hash table of groups of nine, the listed ones by their numbers, the
-- names, and the mappings, which are counted before they are read.
abbrev pub lists_memory : ReadMap → ℕ
lists_memory m = (784 * room 1 (div_ceil (length (record_of m).sources) 9)
    + 8 * room 4 (length m.listing.sources))
    + (24 * room 4 (length m.listing.names) + 32 * length m.listing.tokens)

-- ---- its sources as they are written

abbrev pub written_memory : Spelling → ℕ
written_memory s = text_memory s.source

-- The root of a source, unless the next source has the same: it is kept once for all sources of a text that
-- isn't an index map.
abbrev pub root_memory : Spelling → Option Spelling → ℕ
root_memory s None = 32 + text_memory s.root
root_memory s (Some next) = if same_text s.root next.root then 0 else 32 + text_memory s.root

unfoldable pub roots_memory : List Spelling → ℕ
roots_memory [] = 0
roots_memory (s ∷ rest) = root_memory s (slice_get rest 0) + roots_memory rest

abbrev pub spellings_memory : List Spelling → ℕ
spellings_memory ss = 40 * room 4 (length ss) + (sum_by written_memory ss + roots_memory ss)

-- the same if the map was read from a text
abbrev pub text_spellings_memory : Option (List Spelling) → ℕ
text_spellings_memory None = 0
text_spellings_memory (Some ss) = spellings_memory ss

-- ---- all of it

-- the table of its lines, which has one more number than lines, or nothing for a map of few mappings
abbrev pub table_memory : ReadMap → ℕ
table_memory m =
    if nat_le (line_count m.listing.tokens / 2) (length m.listing.tokens)
    then 8 * (line_count m.listing.tokens + 1) else 0

-- what each map takes, and its base; its strings and lists; its sources as they are written, and the table of
-- its lines
abbrev pub memory_of : Parts → ReadMap → Option (List Spelling) → ℕ
memory_of base map written = (648 + block (length (serialize base)))
    + ((strings_memory map + lists_memory map) + (text_spellings_memory written + table_memory map))
