use Rattle.std.proofs.Common.{inr, subst}
use Rattle.smap_map_finder.specs.ChosenView.{IsLeft, IsNumberOf, choices_of}
use Rattle.smap_map_finder.proofs.GrowthLemmas.{always_ok, none_out}
use Rattle.smap_map_finder.proofs.giving.link.Goals as goal

pub returns-in-Some-clause-chosen : goal.returns-in-Some-clause-chosen
returns-in-Some-clause-chosen c = λ held wanted chosen picked number.
    c.link_to.ensures.chosen held wanted chosen picked (rw c.in-Some.is at number)

pub returns-in-None-clause-chosen : goal.returns-in-None-clause-chosen
returns-in-None-clause-chosen c = λ held wanted chosen picked number.
    let left : IsLeft held wanted c.args.in_frames (choices_of c.args.chosen.now) c.args.pick.now.name.now =
    inr (
      c.args.pick.now.found,
      picked,
      none_out held wanted (choices_of c.args.chosen.now) c.args.pick.now.name.now
          c.args.pick.now.found (subst (IsNumberOf (choices_of c.args.chosen.now) c.args.pick.now.name.now
          c.args.pick.now.found) c.in-None.is number),
    ) in (
      c.note_left.ensures.chosen held wanted left chosen,
      always_ok c.note_left.result (inr (c.note_left.ensures.left held wanted left)),
    )
