-- The greatest number of a mappings string. This project's own limit: with it, every difference of two
-- positions can be encoded.
use Rattle.std.specs.Prelude.{ℕ}

-- 2^31 - 1
abbrev pub max_position : ℕ
max_position = 2147483647
