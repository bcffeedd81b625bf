use Rattle.std.proofs.Common.{rules, arith, ◌≡◌, refl, List, ℕ, Some, length, sym, subst}
use Rattle.std.specs.List.{All, slice_get}
use Rattle.std.proofs.lemmas.List.Elements.{All-push}
use Rattle.smap_map_finder.specs.ChosenView.{IsFor, IsTried, map_in}
use Rattle.smap_map_finder.specs.declared.chosen.Opening.{Opening}
use Rattle.smap_map_finder.proofs.ChosenLemmas.{kept_at, pushed_at}
use Rattle.smap_map_finder.proofs.chosen.Chosen.note_opening.Goals as goal

pub returns-clause-chosen : goal.returns-clause-chosen
returns-clause-chosen c = λ held wanted tried chosen.
    let worst = c.args.self.now.worst in
    let same : c.in_ok-name.name.items ≡ c.args.pick.now.name.now = search rules in
    let opening : Opening =
    record { name = c.in_ok-name.name; found = c.args.pick.now.found; map = c.in_ok-map.map } in
    let own : IsTried held wanted worst c.args.pick.now.name.now c.args.pick.now.found (map_in opening) =
    subst (IsTried held wanted worst c.args.pick.now.name.now c.args.pick.now.found) (sym c.in_ok-map.ensures)
    tried in
    record {
      scripts = chosen.scripts;
      openings = subst (All (IsFor held wanted worst)) (sym c.in_ok-push.ensures.items)
          (All-push (IsFor held wanted worst) c.args.self.now.openings.items opening chosen.openings
          (subst (λ (n : List ℕ). IsTried held wanted worst n c.args.pick.now.found (map_in opening))
          (sym same) own));
      left = chosen.left;
    }

pub returns-clause-number : goal.returns-clause-number
returns-clause-number c =
    let same : c.in_ok-name.name.items ≡ c.args.pick.now.name.now = search rules in
    let count : c.len-number.result ≡ length c.args.self.now.openings.items = search rules in
    let opening : Opening =
    record { name = c.in_ok-name.name; found = c.args.pick.now.found; map = c.in_ok-map.map } in (
      opening,
      subst (λ (n : ℕ). slice_get c.push.new.self.items n ≡ Some opening) (sym count)
          (subst (λ (l : List Opening). slice_get l (length c.args.self.now.openings.items) ≡ Some opening)
          (sym c.in_ok-push.ensures.items) (pushed_at c.args.self.now.openings.items opening)),
      same,
      refl,
    )

pub returns-clause-grows : goal.returns-clause-grows
returns-clause-grows c = record {
  names = λ name has. has;
  openings = λ i o is. subst (λ (l : List Opening). slice_get l i ≡ Some o) (sym c.in_ok-push.ensures.items)
      (kept_at c.args.self.now.openings.items _ i o is);
  crowded = λ i is. is;
  worst = omega arith;
}
