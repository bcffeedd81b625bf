use Rattle.std.proofs.Common.{rules, ◌+◌, ◌-◌, arith, length, get_or, take, drop}
use Rattle.smap_fault_places.specs.declared.step.Step.TheVariants.{Member}
use Rattle.smap_fault_places.specs.declared.step.Key.TheVariants as key
use Rattle.smap_fault_places.specs.Contexts.{IsPart}
use Rattle.smap_fault_places.specs.Paths.{child}
use Rattle.smap_fault_places.specs.Ranges.{bytes_in}
use Rattle.smap_fault_places.proofs.PlaceLemmas.{reached-start, reached-step, reached-end, no_steps}
use Rattle.smap_fault_places.proofs.PlaceLemmas.{first_step}
use Rattle.smap_fault_places.proofs.place.inner_place.Goals as goal

pub steps-init : goal.steps-init
steps-init c = reached-start c.args.path.now c.args.text.now c.requires

pub steps-preserved : goal.steps-preserved
steps-preserved c =
    let rest = c.steps.rest.now in
    let step = get_or rest 0 (Member key.Version) in
    let d = c.steps.depth in
    let part : IsPart (d - 1 + 1) (d - 1) (child step) (bytes_in c.steps.range c.args.text.now)
    c.in-Some.part =
    search rules in
    reached-step c.args.path.now rest (take (length rest - 1) (drop 1 rest)) step d c.args.text.now
    c.steps.range
    c.in-Some.part c.steps.invariant (first_step rest (Member key.Version) c.in-len1-up.len_at_least)
    (omega (arith, c.if-depth-eq0.false)) part

pub returns : goal.returns
returns c = reached-end c.args.path.now c.steps.rest.now c.steps.depth c.args.text.now c.steps.range
    c.steps.invariant
    (no_steps c.steps.rest.now (omega (arith, c.in_default.len_below)))
