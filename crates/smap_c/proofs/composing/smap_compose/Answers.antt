use Rattle.std.proofs.Common.{◌∙◌, Some, ap, map, rules, sym}
use Rattle.smap_c.specs.Handles.{held_map}
use Rattle.smap_c.specs.Maps.{AreLimits}
use Rattle.smap_c.specs.declared.handles.SmapMap.{SmapMap}
use Rattle.smap_c.specs.declared.maps.Shared.{Shared}
use Rattle.smap_c.proofs.ComposingLemmas.{composes_into}
use Rattle.smap_c.proofs.composing.smap_compose.Goals as goal

pub returns-clause-composed : goal.returns-clause-composed
returns-clause-composed c =
    let are : AreLimits c.args.limits.now = search rules in
    composes_into (held_map c.args.outer.now.owner.value)
    (map (λ (h : SmapMap). held_map h.owner.value) c.args.inner.now) c.deref.result.now c.args.leads.now
    c.args.limits.now c.in-Some.limits (held_map c.args.out.now.owner.value)
    (held_map c.compose_open.new.out.owner.value) c.compose_open.result are c.in-Some.ensures.value
    (c.in-Ok.ensures.held ∙ ap (map (λ (s : Shared). Some s.arc.value)) (sym c.deref.ensures.value))
    c.compose_open.ensures.composed
