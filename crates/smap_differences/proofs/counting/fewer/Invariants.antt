use Rattle.std.proofs.Common.{◌≡◌, filter, map}
use Rattle.std.specs.Map.Iter.{deref}
use Rattle.smap_differences.specs.Counts.{is_fewer, rows_of, times}
use Rattle.smap_differences.proofs.DropLemmas.{texts}
use Rattle.smap_differences.proofs.counting.fewer.Given as goal

abbrev pub invariant-loop-text : goal.invariant-loop-text
invariant-loop-text l =
    texts l.fewer.items
    ≡ filter (λ t. is_fewer (times (rows_of l.others.entries) t) (times (rows_of l.counts.entries) t))
    (texts (map deref l.yielded))
