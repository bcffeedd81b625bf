use Rattle.std.proofs.Common.{◌∙◌, ap, List, ℕ, map, subst, sym}
use Rattle.smap_map_choice.specs.declared.picks.Pick.{Pick}
use Rattle.smap_map_finder.specs.Choice.{ArePicked}
use Rattle.smap_map_finder.proofs.opening.Search.picks_of.Goals as goal

pub choose_all-requires-clause-best : goal.choose_all-requires-clause-best
choose_all-requires-clause-best g c = rw (sym c.deref-4.ensures.value) at c.in_ok-picks-2.ensures.picked.each

pub returns-clause-picked : goal.returns-clause-picked
returns-clause-picked g c =
    let held = g.D.Disk.held c.args.self.now.host.now.disk.now in
    let w = c.args.self.now.wanted.now in
    let name_of = λ (p : Pick). p.name.now in
    let best = c.in_ok-picks-2.ensures.picked in
    let choices = c.in_ok-picks-3.ensures.choices in
    let picked = c.in_ok-all_within.ensures held w (rw (sym c.deref-5.ensures.value) at choices.each) in
    subst
    (λ (names : List (List ℕ)). ArePicked held w c.args.in_frames names c.in_ok-all_within.field-0.items)
    (choices.named ∙ ap (map name_of) c.deref-4.ensures.value ∙ best.named)
    (rw c.deref-5.ensures.value at picked)
