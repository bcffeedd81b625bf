use Rattle.std.proofs.Common.{◌≡◌, fold}
use Rattle.std.specs.List.{flat_map, range_with_len}
use Rattle.smap_view_page.specs.Amounts.{added, lines_of}
use Rattle.smap_view_page.specs.Folders.{lines_at}
use Rattle.smap_view_page.proofs.nesting.add_folders.Given as goal

abbrev pub invariant-loop-at : goal.invariant-loop-at
invariant-loop-at l = lines_of l.table.entries
    ≡ fold added (lines_of l.initial.table.entries)
    (flat_map (lines_at (l.name, l.amounts)) (range_with_len 0 l.at))
