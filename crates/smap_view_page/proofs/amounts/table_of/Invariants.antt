use Rattle.std.proofs.Common.{◌≡◌, take}
use Rattle.smap_view_page.specs.Amounts.{lines, lines_of, table_of}
use Rattle.smap_view_page.proofs.amounts.table_of.Given as goal

abbrev pub invariant-loop-row : goal.invariant-loop-row
invariant-loop-row l = lines_of l.table.entries ≡ table_of (lines (take l.row-index l.rows))
