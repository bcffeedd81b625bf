use Rattle.std.proofs.Common.{ap, subst, sym}
use Rattle.smap_map_finder.specs.ChosenView.{AreChosen, Choices, choices_of}
use Rattle.smap_map_finder.proofs.EndLemmas.{then_keeps}
use Rattle.smap_map_finder.proofs.opening.Search.number_for.Goals as goal

pub returns-then-eq-clause-chosen : goal.returns-then-eq-clause-chosen
returns-then-eq-clause-chosen g c = subst (AreChosen _ _) (sym c.turn_of-turn.ensures.chosen) c.requires

pub open_one-requires-clause-chosen : goal.open_one-requires-clause-chosen
open_one-requires-clause-chosen g c = subst (AreChosen _ _) (sym c.turn_of-turn.ensures.chosen) c.requires

pub returns-then-not-is_find-clause-number : goal.returns-then-not-is_find-clause-number
returns-then-not-is_find-clause-number g c =
    c.is_find.ensures.out (choices_of c.args.chosen.now) c.if-not-is_find.true

pub returns-in_err-number-clause-ends : goal.returns-in_err-number-clause-ends
returns-in_err-number-clause-ends g c = then_keeps (g.D.Disk.held c.args.self.now.host.now.disk.now)
    c.args.self.now.wanted.now
    c.args.pick.now.name.now c.args.pick.now.found _ _ _
    (ap (λ (d : Choices). d.ends) c.turn_of-turn.ensures.chosen) c.open_one.ensures.ends

pub returns-then-is_some-clause-ends : goal.returns-then-is_some-clause-ends
returns-then-is_some-clause-ends g c = then_keeps (g.D.Disk.held c.args.self.now.host.now.disk.now)
    c.args.self.now.wanted.now
    c.args.pick.now.name.now c.args.pick.now.found _ _ _
    (ap (λ (d : Choices). d.ends) c.turn_of-turn.ensures.chosen) c.open_one.ensures.ends

pub returns-else-eq-2-clause-ends : goal.returns-else-eq-2-clause-ends
returns-else-eq-2-clause-ends g c = then_keeps (g.D.Disk.held c.args.self.now.host.now.disk.now)
    c.args.self.now.wanted.now
    c.args.pick.now.name.now c.args.pick.now.found _ _ _
    (ap (λ (d : Choices). d.ends) c.turn_of-turn.ensures.chosen) c.open_one.ensures.ends
