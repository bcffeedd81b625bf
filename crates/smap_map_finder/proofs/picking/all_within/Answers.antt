use Rattle.std.proofs.Common.{◌+◌, refl, sym, subst, map, take}
use Rattle.smap_map_choice.specs.declared.picks.Pick.{Pick}
use Rattle.smap_map_finder.specs.Choice.{ArePicksOf, IsPickedBy}
use Rattle.smap_map_finder.proofs.ChoiceLemmas.{all_of, one_more}
use Rattle.smap_map_finder.proofs.picking.all_within.Goals as goal

pub loop-i-preserved : goal.loop-i-preserved
loop-i-preserved c = λ held wanted are.
    let Is = IsPickedBy held wanted c.args.in_frames in
    let name_of = λ (p : Pick). p.name.now in
    let picks = c.args.picks.now in
    subst (ArePicksOf Is (take (c.loop-i.i + 1) (map name_of picks))) (sym c.in_ok-push.ensures.items)
    (one_more Is name_of picks c.loop-i.i c.loop-i.all.items _ _ (c.loop-i.invariant held wanted are)
    c.loop-i-test.true refl
    (record {
      choice = _;
      is_choice = are c.loop-i.i _ c.loop-i-test.true;
      found_is = c.within_ends-found.ensures;
    }))

pub returns : goal.returns
returns c = λ held wanted are. all_of (IsPickedBy held wanted c.args.in_frames) (λ (p : Pick). p.name.now)
    c.args.picks.now c.loop-i.i c.loop-i.all.items (c.loop-i.invariant held wanted are) c.loop-i-test.false
