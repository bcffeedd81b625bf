use Rattle.std.proofs.Common.{◌≡◌, ◌==◌, filter, map}
use Rattle.std.specs.Map.Iter.{deref}
use Rattle.smap_differences.specs.Counts.{rows_of, times}
use Rattle.smap_differences.proofs.DropLemmas.{texts}
use Rattle.smap_differences.proofs.counting.missing.Given as goal

abbrev pub invariant-loop-text : goal.invariant-loop-text
invariant-loop-text l =
    texts l.missing.items
    ≡ filter (λ t. times (rows_of l.others.entries) t == 0) (texts (map deref l.yielded))
