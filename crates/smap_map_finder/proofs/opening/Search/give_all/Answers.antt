use Rattle.std.proofs.Common.{[]}
use Rattle.std.proofs.lemmas.List.{take_all}
use Rattle.std.proofs.lemmas.List.Elements.{All-more}
use Rattle.smap_map_finder.specs.ChosenView.{IsSettledIn, choices_of}
use Rattle.smap_map_finder.proofs.EndLemmas.{one_kept}
use Rattle.smap_map_finder.proofs.GrowthLemmas.{all_grown, grows_on}
use Rattle.smap_map_choice.specs.declared.picks.Found.TheVariants.{Given}
use Rattle.smap_map_choice.specs.declared.picks.Pick.{Pick}
use Rattle.smap_map_finder.proofs.opening.Search.give_all.Goals as goal

pub loop-i-preserved : goal.loop-i-preserved
loop-i-preserved g c =
    let held = g.D.Disk.held c.args.self.now.host.now.disk.now in
    let w = c.args.self.now.wanted.now in
    let frames = c.args.in_frames in
    let after = choices_of c.give.new.chosen in
    let picks = c.args.picks.now in
    let was = c.loop-i.invariant in
    let d : Pick = record { name = record { ref_ptr = (0, 0); now = [] }; found = Given 0 } in
    record {
      settled = All-more (λ (p : Pick). IsSettledIn held w frames after p.name.now) picks c.loop-i.i d
          c.loop-i-test.true (all_grown held w frames _ _ _ c.give.ensures.grows was.settled)
          c.in_ok-give.ensures.settled;
      chosen = c.give.ensures.chosen;
      grows = grows_on _ _ _ was.grows c.give.ensures.grows;
      ends = one_kept held w frames picks c.loop-i.i d _ _ _ c.loop-i-test.true c.requires.picked was.ends
          c.give.ensures.ends;
    }

pub returns-clause-settled : goal.returns-clause-settled
returns-clause-settled g c =
    rw (take_all c.loop-i.i c.args.picks.now c.loop-i-test.false) at c.loop-i.invariant.settled

pub returns-in_err-give-clause-ends : goal.returns-in_err-give-clause-ends
returns-in_err-give-clause-ends g c =
    let held = g.D.Disk.held c.args.self.now.host.now.disk.now in
    let w = c.args.self.now.wanted.now in
    let picks = c.args.picks.now in
    let was = c.loop-i.invariant in
    let d : Pick = record { name = record { ref_ptr = (0, 0); now = [] }; found = Given 0 } in
    one_kept held w c.args.in_frames picks c.loop-i.i d _ _ _ c.loop-i-test.true c.requires.picked was.ends
    c.give.ensures.ends

pub returns-in_err-give-clause-grows : goal.returns-in_err-give-clause-grows
returns-in_err-give-clause-grows g c = grows_on _ _ _ c.loop-i.invariant.grows c.give.ensures.grows
