use Rattle.std.proofs.Common.{◌≡◌, ◌∙◌, ◌++◌, ◌∷◌, [], ap, arith, rules}
use Rattle.smap_map_choice.proofs.PickLemmas.{one_more_script}
use Rattle.smap_map_choice.specs.declared.places.Place.{Place}
use Rattle.smap_map_choice.proofs.table.scripts_in.Goals as goal

pub loop-place-preserved : goal.loop-place-preserved
loop-place-preserved c =
    let more : c.push.new.self.items ≡ c.loop-place.scripts.items ++ c.as_slice.result ∷ [] = search rules in
    one_more_script c.args.places.now c.loop-place.place-index c.place-item.result (omega arith)
    c.loop-place.scripts.items c.push.new.self.items c.as_slice.result more
    (c.as_slice.ensures.value ∙ ap (λ (p : Place). p.script.items) c.place-item.is) c.loop-place.invariant
