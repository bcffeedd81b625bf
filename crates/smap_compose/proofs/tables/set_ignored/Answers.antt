use Rattle.std.proofs.Common.{◌∙◌, ap, refl, sym}
use Rattle.std.specs.Option.{option_copied_mut}
use Rattle.smap_compose.proofs.TableLemmas.{changed_at, none_changed}
use Rattle.smap_compose.proofs.tables.set_ignored.Goals as goal

pub returns-in-Some-clause-sets : goal.returns-in-Some-clause-sets
returns-in-Some-clause-sets c = changed_at c.args.sources.now.entries c.args.number c.in-Some.details.now _
    (λ e. record e { ignored = c.args.ignored })
    (sym c.get_index_mut.ensures.value ∙ ap option_copied_mut c.in-Some.is) (λ url. refl)

pub returns-in-None-clause-sets : goal.returns-in-None-clause-sets
returns-in-None-clause-sets c = (
  refl,
  λ _. none_changed c.args.sources.now.entries c.args.number _
      (sym c.get_index_mut.ensures.value ∙ ap option_copied_mut c.in-None.is),
)
