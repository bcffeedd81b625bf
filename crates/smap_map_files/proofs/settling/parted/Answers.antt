use Rattle.std.proofs.Common.{◌∙◌, false, true, drop, sym}
use Rattle.std.proofs.lemmas.List.{nil_from_length}
use Rattle.std.specs.Vec.Iter.{into_iter_items}
use Rattle.smap_map_files.proofs.ListLemmas.{beside_flag-end}
use Rattle.smap_map_files.proofs.settling.parted.Goals as goal

pub returns-in_default-clause-unset : goal.returns-in_default-clause-unset
returns-in_default-clause-unset g c =
    beside_flag-end false (drop c.loop-flag.flag-index c.args.flags.now) c.loop-flag.unset.items
    (into_iter_items c.loop-flag.rest) _
    (nil_from_length (into_iter_items c.loop-flag.rest) (sym c.loop-flag.invariant.count
    ∙ c.in_default.ensures.cases.0))
    c.loop-flag.invariant.unset

pub returns-in_default-clause-set : goal.returns-in_default-clause-set
returns-in_default-clause-set g c =
    beside_flag-end true (drop c.loop-flag.flag-index c.args.flags.now) c.loop-flag.set.items
    (into_iter_items c.loop-flag.rest) _
    (nil_from_length (into_iter_items c.loop-flag.rest) (sym c.loop-flag.invariant.count
    ∙ c.in_default.ensures.cases.0))
    c.loop-flag.invariant.set
