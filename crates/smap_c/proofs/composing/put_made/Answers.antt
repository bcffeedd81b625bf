use Rattle.std.proofs.Common.{◌∙◌, Option, ap, inl, refl, subst, sym}
use Rattle.smap_record.specs.Record.{record_of}
use Rattle.smap_c.specs.Composing.{HoldsMade}
use Rattle.smap_c.specs.Handles.{held_map}
use Rattle.smap_c.specs.declared.opened.Opened.{Opened}
use Rattle.smap_c.proofs.composing.put_made.Goals as goal

pub returns-in-Ok-new : goal.returns-in-Ok-new
returns-in-Ok-new c = inl (
  subst (λ (new : Option Opened). HoldsMade c.args.of.now (record_of c.args.map) new)
      (sym (ap held_map c.of.ensures ∙ c.in-Ok-new.ensures.value))
      (ap record_of c.in-Ok.ensures.map, c.in-Ok.ensures.base, c.in-Ok.ensures.written),
  refl,
)
