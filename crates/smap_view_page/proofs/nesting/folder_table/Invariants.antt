use Rattle.std.proofs.Common.{◌≡◌, take}
use Rattle.std.specs.List.{flat_map}
use Rattle.smap_view_page.specs.Amounts.{lines, lines_of, table_of}
use Rattle.smap_view_page.specs.Folders.{folder_lines}
use Rattle.smap_view_page.proofs.nesting.folder_table.Given as goal

abbrev pub invariant-loop-row : goal.invariant-loop-row
invariant-loop-row l =
    lines_of l.table.entries ≡ table_of (flat_map folder_lines (lines (take l.row-index l.rows)))
