use Rattle.std.proofs.Common.{◌∙◌, inl, inr, sym, subst, Bor}
use Rattle.smap_record.specs.Record.{ReadMap, record_of}
use Rattle.smap_map_finder.proofs.GrowthLemmas.{known_there}
use Rattle.smap_map_finder.specs.ChosenView.{IsLeft, IsLeftName, choices_of}
use Rattle.smap_map_finder.proofs.ChoiceLemmas.{one_of}
use Rattle.smap_map_finder.proofs.chosen.Chosen.is_known.Goals as goal

pub returns-then-is_left : goal.returns-then-is_left
returns-then-is_left c = λ held wanted chosen is.
    let l = c.is_left.ensures is in
    inr (subst (IsLeft held wanted c.args.in_frames (choices_of c.args.self.now)) l.3
    (one_of (IsLeftName held wanted (choices_of c.args.self.now)) c.args.self.now.left.entries
    (l.1, c.args.in_frames) l.0 chosen.left l.2))

pub returns-else-is_left : goal.returns-else-is_left
returns-else-is_left c = λ held wanted chosen is.
    inl (known_there (λ (m : Bor ReadMap). record_of m.now) c.map_of.result c.args.self.now.scripts
    c.args.name.now c.map_of.ensures (sym c.is_some.ensures ∙ is))
