use Rattle.std.proofs.Common.{◌≡◌, ◌∙◌, sym, subst, Bool, Some}
use Rattle.std.specs.List.{slice_get}
use Rattle.smap_map_finder.proofs.ChosenLemmas.{same_bool}
use Rattle.smap_map_finder.proofs.chosen.Chosen.is_left.Goals as goal

pub returns : goal.returns
returns c = λ is. (
  c.in-Some.field-0-0,
  c.in-Some.key.now,
  subst
      (λ (b : Bool). slice_get c.args.self.now.left.entries c.in-Some.field-0-0 ≡ Some (c.in-Some.key.now, b))
      (same_bool c.in-Some.as_frame.now c.args.in_frames c.if-as_frame-in_frames.false)
      c.in-Some.ensures.entry,
  sym c.deref.ensures.value ∙ c.is_name.ensures.same is,
)
