use Rattle.std.proofs.Common.{◌≡◌, option_to_list}
use Rattle.std.specs.List.{flat_map, range_with_len}
use Rattle.smap_view_page.specs.Amounts.{lines}
use Rattle.smap_view_page.specs.Folders.{told_at}
use Rattle.smap_view_page.proofs.nesting.folders.Given as goal

abbrev pub invariant-loop-i : goal.invariant-loop-i
invariant-loop-i l = lines l.told.items
    ≡ flat_map (λ i. option_to_list (told_at (lines l.all.items) i)) (range_with_len 0 l.i)
