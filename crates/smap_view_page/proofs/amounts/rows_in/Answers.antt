use Rattle.std.proofs.Common.{◌≡◌, ◌∙◌, ap, map, rules}
use Rattle.std.specs.Map.{keys_of}
use Rattle.std.specs.Map.Iter.{deref}
use Rattle.std.proofs.lemmas.Map.Iter.{iter_end}
use Rattle.smap_view_page.specs.Amounts.{found, lines_of}
use Rattle.smap_view_page.proofs.AmountLemmas.{keys_are}
use Rattle.smap_view_page.proofs.amounts.rows_in.Goals as goal

pub returns : goal.returns
returns c =
    let all : map deref c.loop-name.yielded ≡ keys_of c.args.table.now.entries = search (rules, iter_end) in
    c.loop-name.invariant
    ∙ ap (map (λ n. (n, found (lines_of c.args.table.now.entries) n)))
    (keys_are (map deref c.loop-name.yielded) c.args.table.now.entries all)
