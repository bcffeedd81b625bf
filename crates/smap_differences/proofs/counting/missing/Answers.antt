use Rattle.std.proofs.Common.{◌≡◌, ◌∙◌, ◌==◌, ap, filter, map, rules}
use Rattle.std.specs.Map.{keys_of}
use Rattle.std.specs.Map.Iter.{deref}
use Rattle.std.proofs.lemmas.Map.Iter.{iter_end}
use Rattle.smap_differences.specs.Counts.{rows_of, times}
use Rattle.smap_differences.proofs.CountLemmas.{keys_are}
use Rattle.smap_differences.proofs.counting.missing.Goals as goal

pub returns : goal.returns
returns c =
    let all : map deref c.loop-text.yielded ≡ keys_of c.args.counts.now.entries = search (rules, iter_end) in
    c.loop-text.invariant
    ∙ ap (filter (λ t. times (rows_of c.args.others.now.entries) t == 0))
    (keys_are (map deref c.loop-text.yielded) c.args.counts.now.entries all)
