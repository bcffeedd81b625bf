use Rattle.std.proofs.Common.{◌≡◌, inl, inr, Some}
use Rattle.smap_map_finder.specs.ChosenView.{IsLeft, choices_of, map_in}
use Rattle.smap_map_finder.proofs.GrowthLemmas.{always_ok, no_text, none_in, none_opened, on_ok, some_in}
use Rattle.smap_map_finder.proofs.MapLemmas.{opened_map}
use Rattle.smap_map_finder.proofs.giving.link_to.Goals as goal

pub returns-in_default-clause-chosen : goal.returns-in_default-clause-chosen
returns-in_default-clause-chosen c = λ held wanted chosen picked served.
    let left : IsLeft held wanted c.args.in_frames (choices_of c.args.chosen.now) c.args.pick.now.name.now =
    inl (no_text _ _ _ c.from_utf8.result c.from_utf8.ensures.cases c.in_default.not-Ok) in (
      c.note_left.ensures.chosen held wanted left chosen,
      always_ok c.note_left.result (inr (c.note_left.ensures.left held wanted left)),
    )

pub returns-in_default-map_at-clause-chosen : goal.returns-in_default-map_at-clause-chosen
returns-in_default-map_at-clause-chosen c = λ held wanted chosen picked (o, served).
    let left : IsLeft held wanted c.args.in_frames (choices_of c.args.chosen.now) c.args.pick.now.name.now =
    inr (
      c.args.pick.now.found,
      picked,
      none_opened held wanted (choices_of c.args.chosen.now)
          c.args.pick.now.name.now c.args.pick.now.found c.args.number o chosen served
          (none_in c.map_at.result o.map (λ arc. arc.value) (c.map_at.ensures o served.0)
          c.in_default-map_at.not-Some),
    ) in (
      c.note_left-in_default-map_at.ensures.chosen held wanted left chosen,
      always_ok c.note_left-in_default-map_at.result
          (inr (c.note_left-in_default-map_at.ensures.left held wanted left)),
    )

pub returns-clause-chosen : goal.returns-clause-chosen
returns-clause-chosen c = λ held wanted chosen picked (o, served).
    let m = c.in_ok-map.map.value in
    let map_is : map_in o ≡ Some m =
    some_in c.map_at.result o.map (λ arc. arc.value) c.in-Some.map m (c.map_at.ensures o served.0)
    c.in-Some.is c.in_ok-map.ensures in
    let is = opened_map held wanted c.args.in_frames (choices_of c.args.chosen.now) c.args.number
    c.args.pick.now.name.now c.args.pick.now.found o m chosen picked served map_is in (
      c.note_mapped.ensures.chosen held wanted is chosen,
      on_ok c.note_mapped.result (λ has. inl has) c.note_mapped.ensures.has,
    )
