use Rattle.smap_map_finder.specs.ChosenView.{choices_of}
use Rattle.smap_map_finder.proofs.EndLemmas.{then_keeps}
use Rattle.smap_map_finder.proofs.GrowthLemmas.{chosen_worse, grows_further, grows_on, serves_self}
use Rattle.smap_map_finder.proofs.opening.Search.open_one.Goals as goal

pub returns-in_err-map-clause-chosen : goal.returns-in_err-map-clause-chosen
returns-in_err-map-clause-chosen g c =
    chosen_worse _ _ (choices_of c.args.chosen.now) c.opened_under.new.worst c.opened_under.ensures.worst
    c.requires.chosen

pub returns-in_err-number-clause-chosen : goal.returns-in_err-number-clause-chosen
returns-in_err-number-clause-chosen g c =
    c.note_opening.ensures.chosen (g.D.Disk.held c.args.self.now.host.now.disk.now) c.args.self.now.wanted.now
    c.in_ok-map.ensures.tried
    (chosen_worse _ _ (choices_of c.args.chosen.now) c.opened_under.new.worst c.opened_under.ensures.worst
    c.requires.chosen)

pub returns-clause-served : goal.returns-clause-served
returns-clause-served g c =
    let noted = c.in_ok-number.ensures.number in (
      noted.0,
      (
        c.note_end.ensures.grows.openings c.in_ok-number.number noted.0 noted.1,
        rw (noted.2, noted.3) (serves_self c.args.pick.now.name.now c.args.pick.now.found
            c.requires.find),
      ),
    )

pub returns-clause-chosen : goal.returns-clause-chosen
returns-clause-chosen g c =
    let held = g.D.Disk.held c.args.self.now.host.now.disk.now in
    let w = c.args.self.now.wanted.now in
    c.note_end.ensures.chosen held w (c.note_opening.ensures.chosen held w c.in_ok-map.ensures.tried
    (chosen_worse _ _ (choices_of c.args.chosen.now) c.opened_under.new.worst c.opened_under.ensures.worst
    c.requires.chosen))

pub returns-clause-grows : goal.returns-clause-grows
returns-clause-grows g c =
    let old = choices_of c.args.chosen.now in
    grows_on _ _ _ (grows_on _ _ _
    (grows_further old old.ends c.opened_under.new.worst (λ i is. is) c.opened_under.ensures.worst)
    c.note_opening.ensures.grows) c.note_end.ensures.grows

pub returns-in_err-note_end-clause-chosen : goal.returns-in_err-note_end-clause-chosen
returns-in_err-note_end-clause-chosen g c =
    let held = g.D.Disk.held c.args.self.now.host.now.disk.now in
    let w = c.args.self.now.wanted.now in
    c.note_end.ensures.chosen held w (c.note_opening.ensures.chosen held w c.in_ok-map.ensures.tried
    (chosen_worse _ _ (choices_of c.args.chosen.now) c.opened_under.new.worst c.opened_under.ensures.worst
    c.requires.chosen))

pub returns-in_err-note_end-clause-ends : goal.returns-in_err-note_end-clause-ends
returns-in_err-note_end-clause-ends g c = then_keeps (g.D.Disk.held c.args.self.now.host.now.disk.now)
    c.args.self.now.wanted.now c.args.pick.now.name.now c.args.pick.now.found _ _ _
    c.note_opening.ensures.ends
    (c.note_end.ensures.ends (g.D.Disk.held c.args.self.now.host.now.disk.now) c.args.self.now.wanted.now)

pub returns-clause-ends : goal.returns-clause-ends
returns-clause-ends g c = then_keeps (g.D.Disk.held c.args.self.now.host.now.disk.now)
    c.args.self.now.wanted.now c.args.pick.now.name.now c.args.pick.now.found _ _ _
    c.note_opening.ensures.ends
    (c.note_end.ensures.ends (g.D.Disk.held c.args.self.now.host.now.disk.now) c.args.self.now.wanted.now)

pub returns-in_err-note_end-clause-grows : goal.returns-in_err-note_end-clause-grows
returns-in_err-note_end-clause-grows g c =
    let old = choices_of c.args.chosen.now in
    grows_on _ _ _ (grows_on _ _ _
    (grows_further old old.ends c.opened_under.new.worst (λ i is. is) c.opened_under.ensures.worst)
    c.note_opening.ensures.grows) c.note_end.ensures.grows
