use Rattle.std.proofs.Common.{◌+◌, sym, subst, map, take}
use Rattle.smap_map_choice.specs.declared.picks.Pick.{Pick}
use Rattle.smap_map_finder.specs.Choice.{ArePicksOf, IsChoiceOf}
use Rattle.smap_map_finder.proofs.ChoiceLemmas.{all_of, one_more}
use Rattle.smap_map_finder.proofs.opening.Search.choose_all.Goals as goal

pub choose-requires-clause-best : goal.choose-requires-clause-best
choose-requires-clause-best g c = c.requires.best c.loop-i.i _ c.loop-i-test.true

pub choose-requires-clause-over : goal.choose-requires-clause-over
choose-requires-clause-over g c = c.loop-i.invariant.1

pub loop-i-preserved : goal.loop-i-preserved
loop-i-preserved g c =
    let Is = IsChoiceOf (g.D.Disk.held c.args.self.now.host.now.disk.now) c.args.self.now.wanted.now in
    let name_of = λ (p : Pick). p.name.now in
    let picks = c.args.picks.now in (
      subst (ArePicksOf Is (take (c.loop-i.i + 1) (map name_of picks))) (sym c.in_ok-push.ensures.items)
          (one_more Is name_of picks c.loop-i.i c.loop-i.chosen.items _ _ c.loop-i.invariant.0
          c.loop-i-test.true c.in_ok-pick.ensures.name c.in_ok-pick.ensures.choice),
      c.in_ok-pick.ensures.over,
    )

pub returns-clause-choices : goal.returns-clause-choices
returns-clause-choices g c =
    all_of (IsChoiceOf (g.D.Disk.held c.args.self.now.host.now.disk.now) c.args.self.now.wanted.now)
    (λ (p : Pick). p.name.now) c.args.picks.now c.loop-i.i c.loop-i.chosen.items c.loop-i.invariant.0
    c.loop-i-test.false
