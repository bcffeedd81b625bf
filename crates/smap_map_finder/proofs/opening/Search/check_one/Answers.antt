use Rattle.smap_map_finder.specs.ChosenView.{choices_of}
use Rattle.smap_map_finder.proofs.GrowthLemmas.{chosen_worse}
use Rattle.smap_map_finder.proofs.opening.Search.check_one.Goals as goal

pub returns-in_err-map-clause-chosen : goal.returns-in_err-map-clause-chosen
returns-in_err-map-clause-chosen g c =
    chosen_worse _ _ (choices_of c.args.chosen.now) c.opened_under.new.worst
    c.opened_under.ensures.worst c.requires

pub returns-then-is_some-clause-chosen : goal.returns-then-is_some-clause-chosen
returns-then-is_some-clause-chosen g c =
    chosen_worse _ _ (choices_of c.args.chosen.now) c.opened_under.new.worst
    c.opened_under.ensures.worst c.requires

pub returns-in_err-key-clause-chosen : goal.returns-in_err-key-clause-chosen
returns-in_err-key-clause-chosen g c =
    chosen_worse _ _ (choices_of c.args.chosen.now) c.opened_under.new.worst
    c.opened_under.ensures.worst c.requires

pub returns-in_err-note_opening-clause-chosen : goal.returns-in_err-note_opening-clause-chosen
returns-in_err-note_opening-clause-chosen g c =
    c.note_opening.ensures.chosen (g.D.Disk.held c.args.self.now.host.now.disk.now) c.args.self.now.wanted.now
    c.in_ok-map.ensures.tried (chosen_worse _ _ (choices_of c.args.chosen.now) c.opened_under.new.worst
    c.opened_under.ensures.worst c.requires)

pub returns-clause-chosen : goal.returns-clause-chosen
returns-clause-chosen g c =
    c.note_opening.ensures.chosen (g.D.Disk.held c.args.self.now.host.now.disk.now) c.args.self.now.wanted.now
    c.in_ok-map.ensures.tried (chosen_worse _ _ (choices_of c.args.chosen.now) c.opened_under.new.worst
    c.opened_under.ensures.worst c.requires)
