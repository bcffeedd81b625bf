use Rattle.std.proofs.Common.{◌∙◌, map}
use Rattle.smap_c.specs.Handles.{held_map}
use Rattle.smap_c.specs.declared.maps.Shared.{Shared}
use Rattle.smap_c.proofs.ComposingLemmas.{composes}
use Rattle.smap_c.proofs.composing.put_composition.Goals as goal

pub returns-in-Ok-compose : goal.returns-in-Ok-compose
returns-in-Ok-compose c = composes c.args.outer.now (map (λ (s : Shared). s.arc.value.map) c.args.inner.now)
    c.args.indices.now c.deref.result.now c.args.limits c.in-Ok-compose.map
    (held_map c.args.out.now.owner.value) (held_map c.put_made.new.out.owner.value) c.put_made.result
    (c.deref.ensures.value ∙ c.in-Ok.ensures) c.in-Ok-compose.ensures.few c.in-Ok-compose.ensures.record
    c.put_made.ensures
