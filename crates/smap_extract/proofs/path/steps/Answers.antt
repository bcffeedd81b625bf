use Rattle.std.proofs.Common.{◌∙◌, ap, filter, rules, tests}
use Rattle.std.proofs.lemmas.Iterator.Consumers.{YieldsList-end}
use Rattle.std.proofs.lemmas.Iterator.Splits.{YieldsList-from_slice_split}
use Rattle.smap_extract.specs.Paths.{is_separator, leads}
use Rattle.smap_extract.proofs.PathLemmas.{one_more_step}
use Rattle.smap_extract.proofs.path.steps.Goals as goal

pub loop-segment-preserved : goal.loop-segment-preserved
loop-segment-preserved c =
    one_more_step c.loop-segment.steps.items c.add_step.new.steps.items c.loop-segment.yielded
    c.in-Some.segment c.in_ok-add_step.ensures c.loop-segment.invariant

pub returns : goal.returns
returns c =
    let end = YieldsList-end (YieldsList-from_slice_split _ is_separator c.args.text.now (cc) (cc) (cc)
    (λ x b q called. search (rules, tests))) c.loop-segment.yielded _ c.loop-segment.yielded_by _ _
    c.in-None.is c.next.ensures.steps in
    c.loop-segment.invariant ∙ ap (filter leads) end.0
