-- How deep index maps nest. This project's own limit.
use Rattle.std.specs.Prelude.{ℕ}

-- the level of the innermost index map, counted from 1
abbrev pub max_level : ℕ
max_level = 8
