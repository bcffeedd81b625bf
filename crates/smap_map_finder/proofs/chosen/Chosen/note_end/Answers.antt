use Rattle.std.proofs.Common.{rules, ◌≡◌, arith}
use Rattle.smap_link.specs.Paths.{bare}
use Rattle.smap_map_finder.specs.ChosenView.{choices_of}
use Rattle.smap_map_finder.proofs.EndLemmas.{crowded_on, end_of, ended_on}
use Rattle.smap_map_finder.proofs.GrowthLemmas.{chosen_further}
use Rattle.smap_map_finder.proofs.chosen.Chosen.note_end.Goals as goal

pub returns-clause-chosen : goal.returns-clause-chosen
returns-clause-chosen c = λ held wanted chosen.
    let old = choices_of c.args.self.now in
    chosen_further held wanted old _ old.worst (crowded_on old.ends _ _ c.in_ok-insert-2.ensures.keys)
    (omega arith) chosen

pub returns-clause-ends : goal.returns-clause-ends
returns-clause-ends c = λ held wanted asked in_frames picked among all.
    let same : c.in_ok-name.name.items ≡ bare c.args.name.now = search rules in
    ended_on _ _ _ _ c.in_ok-insert-2.ensures.keys c.in_ok-insert-2.ensures.unique
    (end_of held wanted asked in_frames c.args.name.now c.in_ok-name.name.items c.args.found c.in-ByEnd.file
    same c.in-ByEnd.is picked among) all
