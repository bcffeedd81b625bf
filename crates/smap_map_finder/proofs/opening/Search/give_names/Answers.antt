use Rattle.std.proofs.Common.{OnOk, List, map, subst, ℕ}
use Rattle.std.specs.List.{All}
use Rattle.std.proofs.lemmas.List.Elements.{All-map}
use Rattle.smap_map_finder.specs.ChosenView.{IsSettledIn, KeepEnds, choices_of}
use Rattle.smap_map_finder.proofs.GrowthLemmas.{on_ok}
use Rattle.smap_map_choice.specs.declared.picks.Pick.{Pick}
use Rattle.smap_map_finder.proofs.opening.Search.give_names.Goals as goal

pub returns-clause-settled : goal.returns-clause-settled
returns-clause-settled g c =
    let w = c.args.self.now.wanted.now in
    let frames = c.args.in_frames in
    let after = choices_of c.give_all.new.chosen in
    let Is = IsSettledIn (g.D.Disk.held c.args.self.now.host.now.disk.now) w frames after in
    let name_of = λ (p : Pick). p.name.now in
    let settled : OnOk c.give_all.result (All (λ (p : Pick). Is p.name.now) c.in_ok-picks.picks.items) =
    subst (λ (l : List Pick). OnOk c.give_all.result (All (λ (p : Pick). Is p.name.now) l))
    c.deref.ensures.value
    c.give_all.ensures.settled in
    on_ok c.give_all.result (λ all. subst (All Is) c.in_ok-picks.ensures.picked.named
    (All-map Is name_of c.in_ok-picks.picks.items all)) settled

pub returns-clause-ends : goal.returns-clause-ends
returns-clause-ends g c =
    let held = g.D.Disk.held c.args.self.now.host.now.disk.now in
    let w = c.args.self.now.wanted.now in
    let before = choices_of c.args.chosen.now in
    let after = choices_of c.give_all.new.chosen in
    let name_of = λ (p : Pick). p.name.now in
    subst (λ (names : List (List ℕ)). KeepEnds held w names before after) c.in_ok-picks.ensures.picked.named
    (subst (λ (l : List Pick). KeepEnds held w (map name_of l) before after) c.deref.ensures.value
    c.give_all.ensures.ends)
