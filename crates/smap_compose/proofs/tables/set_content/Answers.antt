use Rattle.std.proofs.Common.{◌∙◌, ap, refl, string_bytes, sym}
use Rattle.std.specs.Prelude.{option_map}
use Rattle.std.specs.Option.{option_copied_mut}
use Rattle.smap_compose.proofs.TableLemmas.{changed_at, none_changed}
use Rattle.smap_compose.proofs.tables.set_content.Goals as goal

pub returns-in-Some : goal.returns-in-Some
returns-in-Some c = changed_at c.args.sources.now.entries c.args.number c.in-Some.details.now _
    (λ e. record e { content = option_map string_bytes c.args.content })
    (sym c.get_index_mut.ensures.value ∙ ap option_copied_mut c.in-Some.is) (λ url. refl)

pub returns-in-None : goal.returns-in-None
returns-in-None c = (
  refl,
  λ _. none_changed c.args.sources.now.entries c.args.number _
      (sym c.get_index_mut.ensures.value ∙ ap option_copied_mut c.in-None.is),
)
