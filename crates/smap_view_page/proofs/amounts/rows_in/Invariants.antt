use Rattle.std.proofs.Common.{◌≡◌, map}
use Rattle.std.specs.Map.Iter.{deref}
use Rattle.smap_view_page.specs.Amounts.{found, lines, lines_of}
use Rattle.smap_view_page.proofs.amounts.rows_in.Given as goal

abbrev pub invariant-loop-name : goal.invariant-loop-name
invariant-loop-name l =
    lines l.rows.items
    ≡ map (λ n. (n, found (lines_of l.table.entries) n)) (map (λ k. k.now) (map deref l.yielded))
