-- The greatest limit on generated lines, and the widest bounds. This project's own limits.
use Rattle.std.specs.Prelude.{ℕ}
use Rattle.smap_vlq.specs.Limits.{max_position}
use Rattle.smap_mappings.specs.declared.token.Bounds.{Bounds}

-- 2^24
abbrev pub max_lines : ℕ
max_lines = 16777216

-- the bounds of a mappings string without a map: those that allow most
abbrev pub widest : Bounds
widest = record {
  start_line = 0;
  start_column = 0;
  sources = max_position;
  names = max_position;
  lines = max_lines;
}
