use Rattle.std.proofs.Common.{◌∙◌, ap, sym, subst}
use Rattle.smap_map_finder.specs.ChosenView.{AreChosen, Choices, Grows, IsNumberOf, choices_of}
use Rattle.smap_map_finder.proofs.EndLemmas.{keeps_then}
use Rattle.smap_map_finder.proofs.GrowthLemmas.{grows_on}
use Rattle.smap_map_finder.proofs.opening.Search.give.Goals as goal

pub returns-in_err-link-clause-chosen : goal.returns-in_err-link-clause-chosen
returns-in_err-link-clause-chosen g c =
    let held = g.D.Disk.held c.args.self.now.host.now.disk.now in
    let w = c.args.self.now.wanted.now in
    (c.link.ensures.chosen held w
    (subst (AreChosen held w) (sym c.tell_pick.ensures) c.in_ok-number.ensures.chosen)
    c.requires.picked (subst (λ (d : Choices). IsNumberOf d c.args.pick.now.name.now c.args.pick.now.found
    c.in_ok-number.number) (sym c.tell_pick.ensures) c.in_ok-number.ensures.number)).0

pub returns-in_err-link-clause-grows : goal.returns-in_err-link-clause-grows
returns-in_err-link-clause-grows g c = grows_on _ _ _ c.number_for.ensures.grows
    (subst (λ (d : Choices). Grows d (choices_of c.link.new.chosen)) c.tell_pick.ensures c.link.ensures.grows)

pub returns-clause-chosen : goal.returns-clause-chosen
returns-clause-chosen g c =
    let held = g.D.Disk.held c.args.self.now.host.now.disk.now in
    let w = c.args.self.now.wanted.now in
    (c.link.ensures.chosen held w
    (subst (AreChosen held w) (sym c.tell_pick.ensures) c.in_ok-number.ensures.chosen)
    c.requires.picked (subst (λ (d : Choices). IsNumberOf d c.args.pick.now.name.now c.args.pick.now.found
    c.in_ok-number.number) (sym c.tell_pick.ensures) c.in_ok-number.ensures.number)).0

pub returns-clause-grows : goal.returns-clause-grows
returns-clause-grows g c = grows_on _ _ _ c.number_for.ensures.grows
    (subst (λ (d : Choices). Grows d (choices_of c.link.new.chosen)) c.tell_pick.ensures c.link.ensures.grows)

pub returns-clause-settled : goal.returns-clause-settled
returns-clause-settled g c =
    let held = g.D.Disk.held c.args.self.now.host.now.disk.now in
    let w = c.args.self.now.wanted.now in
    (c.in_ok-link.ensures.chosen held w
    (subst (AreChosen held w) (sym c.tell_pick.ensures) c.in_ok-number.ensures.chosen)
    c.requires.picked (subst (λ (d : Choices). IsNumberOf d c.args.pick.now.name.now c.args.pick.now.found
    c.in_ok-number.number) (sym c.tell_pick.ensures) c.in_ok-number.ensures.number)).1

pub returns-in_err-link-clause-ends : goal.returns-in_err-link-clause-ends
returns-in_err-link-clause-ends g c = keeps_then _ _ _ _ _ _ _ c.number_for.ensures.ends
    (c.link.ensures.ends ∙ ap (λ (d : Choices). d.ends) c.tell_pick.ensures)

pub returns-clause-ends : goal.returns-clause-ends
returns-clause-ends g c = keeps_then _ _ _ _ _ _ _ c.number_for.ensures.ends
    (c.link.ensures.ends ∙ ap (λ (d : Choices). d.ends) c.tell_pick.ensures)

pub returns-in_err-tell_pick-clause-ends : goal.returns-in_err-tell_pick-clause-ends
returns-in_err-tell_pick-clause-ends g c = keeps_then _ _ _ _ _ _ _ c.number_for.ensures.ends
    (ap (λ (d : Choices). d.ends) c.tell_pick.ensures)
