-- How much is read. This project's own limits.
use Rattle.std.specs.Prelude.{ℕ}

-- the most bytes of a map or a mappings string: 2^28, which are 256 MiB
abbrev pub longest_input : ℕ
longest_input = 268435456

-- the most read calls for an input without a limit on its length: 2^32
abbrev pub most_calls : ℕ
most_calls = 4294967296
