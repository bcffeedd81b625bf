use Rattle.std.proofs.Common.{rules, ◌≡◌, sym, subst}
use Rattle.std.specs.List.{All}
use Rattle.std.proofs.lemmas.Slice.Eq.{bytes_eq-Decides}
use Rattle.smap_map_finder.specs.ChosenView.{IsLeft, IsLeftName, choices_of}
use Rattle.smap_map_finder.proofs.ChosenLemmas.{all_inserted}
use Rattle.smap_map_finder.proofs.chosen.Chosen.note_left.Goals as goal

pub returns-in_err-insert-clause-chosen : goal.returns-in_err-insert-clause-chosen
returns-in_err-insert-clause-chosen c = λ held wanted left chosen.
    let was = c.forget_left.ensures.chosen held wanted chosen in
    record {
      scripts = was.scripts;
      openings = was.openings;
      left = subst (All (IsLeftName held wanted (choices_of c.forget_left.new.self)))
          (sym c.in_err-insert.ensures.err) was.left;
    }

pub returns-in_err-insert-clause-left : goal.returns-in_err-insert-clause-left
returns-in_err-insert-clause-left c = λ held wanted left. c.forget_left.ensures.left held wanted _ _ left

pub returns-clause-left : goal.returns-clause-left
returns-clause-left c = λ held wanted left. c.forget_left.ensures.left held wanted _ _ left

pub returns-clause-chosen : goal.returns-clause-chosen
returns-clause-chosen c = λ held wanted left chosen.
    let was = c.forget_left.ensures.chosen held wanted chosen in
    let same : c.in_ok-name.name.items ≡ c.args.name.now = search rules in
    let IsOne = IsLeftName held wanted (choices_of c.forget_left.new.self) in
    let own : IsLeft held wanted c.args.in_frames (choices_of c.forget_left.new.self)
    c.in_ok-name.name.items =
    rw (sym same) at (c.forget_left.ensures.left held wanted _ _ left) in
    record {
      scripts = was.scripts;
      openings = was.openings;
      left = subst (All IsOne) (sym c.in_ok-insert.ensures.entries) (all_inserted IsOne _ _ c.in_ok-name.name
          c.args.in_frames was.left
          (λ e is. subst (IsLeft held wanted c.args.in_frames (choices_of c.forget_left.new.self))
          ((bytes_eq-Decides c.in_ok-name.name.items e.0.items).0 is) own) own);
    }
