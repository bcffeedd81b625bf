-- The numbers of what a script names for its map.
use Rattle.std.specs.Prelude.{ℕ, Bool, cond}
use Rattle.smap_map_choice.specs.declared.named.Named.{Named}
use Rattle.smap_map_choice.specs.declared.named.Named.TheVariants as named
use Rattle.smap_map_choice.specs.declared.named.NamedFault.{NamedFault}
use Rattle.smap_map_choice.specs.declared.named.NamedFault.TheVariants as fault

-- ---- as `smap.h` has them

abbrev pub NAMED_UNSAID : ℕ
NAMED_UNSAID = 0

abbrev pub NAMED_NOTHING : ℕ
NAMED_NOTHING = 1

abbrev pub NAMED_INLINE : ℕ
NAMED_INLINE = 2

abbrev pub NAMED_FILE : ℕ
NAMED_FILE = 3

abbrev pub NAMED_GARBLED : ℕ
NAMED_GARBLED = 4

abbrev pub NAMED_NO_NAME : ℕ
NAMED_NO_NAME = 5

abbrev pub NAMED_NOT_URL : ℕ
NAMED_NOT_URL = 6

abbrev pub NAMED_LEAVES : ℕ
NAMED_LEAVES = 7

abbrev pub number_of_fault : NamedFault → ℕ
number_of_fault fault.Garbled = NAMED_GARBLED
number_of_fault fault.NoName = NAMED_NO_NAME
number_of_fault fault.NotUrl = NAMED_NOT_URL
number_of_fault fault.Leaves = NAMED_LEAVES

-- the number of what is named, where the text says nothing or something
abbrev pub number_of : Bool → Named → ℕ
number_of unsaid named.Nothing = cond unsaid NAMED_UNSAID NAMED_NOTHING
number_of unsaid (named.Inline bytes) = NAMED_INLINE
number_of unsaid (named.File name) = NAMED_FILE
number_of unsaid (named.Wrong why) = number_of_fault why
