use Rattle.std.proofs.Common.{Bor, List, ℕ, map, subst}
use Rattle.std.specs.List.{All}
use Rattle.smap_map_finder.specs.ChosenView.{IsSettledIn, choices_of}
use Rattle.smap_map_finder.proofs.EndLemmas.{fresh_kept}
use Rattle.smap_map_finder.proofs.GrowthLemmas.{all_settled}
use Rattle.smap_map_finder.proofs.opening.Search.open_for.Goals as goal

pub returns-clause-settled : goal.returns-clause-settled
returns-clause-settled g c =
    all_settled (g.D.Disk.held c.args.self.now.host.now.disk.now) c.args.self.now.wanted.now c.args.in_frames
    (choices_of c.args.chosen.now) (choices_of c.give_names.new.chosen) c.args.names.now _
    c.give_names.ensures.grows
    (c.in_ok-fresh.ensures.each (g.D.Disk.held c.args.self.now.host.now.disk.now) c.args.self.now.wanted.now
    c.requires.named)
    (subst (λ (l : List (Bor (List ℕ))).
    All (IsSettledIn (g.D.Disk.held c.args.self.now.host.now.disk.now) c.args.self.now.wanted.now
    c.args.in_frames (choices_of c.give_names.new.chosen)) (map (λ (f : Bor (List ℕ)). f.now) l))
    c.deref.ensures.value
    c.in_ok-give_names.ensures.settled)

pub returns-clause-ends : goal.returns-clause-ends
returns-clause-ends g c = fresh_kept _ _ c.args.names.now c.in_ok-fresh.fresh.items c.deref.result.now _ _
    c.deref.ensures.value c.in_ok-fresh.ensures.among c.give_names.ensures.ends

pub returns-in_err-give_names-clause-ends : goal.returns-in_err-give_names-clause-ends
returns-in_err-give_names-clause-ends g c = fresh_kept _ _ c.args.names.now c.in_ok-fresh.fresh.items
    c.deref.result.now _ _ c.deref.ensures.value c.in_ok-fresh.ensures.among c.give_names.ensures.ends
