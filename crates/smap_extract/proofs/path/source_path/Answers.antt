use Rattle.std.proofs.Common.{◌≡◌, ◌∙◌, IfOk, ap, map, subst}
use Rattle.smap_extract.specs.Paths.{last_steps, naming_part, or_unnamed, steps}
use Rattle.smap_extract.specs.Places.{IsPath}
use Rattle.smap_extract.specs.Segments.{cleaned}
use Rattle.smap_extract.proofs.PathLemmas.{texts}
use Rattle.smap_extract.proofs.path.source_path.Goals as goal

pub returns : goal.returns
returns c =
    let found : texts c.deref-2.result.now ≡ steps (naming_part c.args.url.now) =
    ap texts c.deref-2.ensures.value ∙ c.in_ok-steps.ensures
    ∙ ap steps (c.deref.ensures.value ∙ c.in_ok-text.ensures) in
    subst (λ names. IfOk c.path_from.result (IsPath (or_unnamed names)))
    (c.last_steps.ensures ∙ ap (λ ss. map cleaned (last_steps ss)) found) c.path_from.ensures
