use Rattle.std.proofs.Common.{◌≡◌, ◌∙◌, ⊎_elim, inl, inr, true, ap, sym, arith}
use Rattle.smap_link.specs.Inline as spec
use Rattle.smap_link.proofs.InlineLemmas.{map_is}
use Rattle.smap_link.proofs.inline.inline_map_by.Goals as goal

pub returns-in-Ok-clause-value : goal.returns-in-Ok-clause-value
returns-in-Ok-clause-value c =
    let e = c.args.engine.now in
    let fits : spec.is_data c.args.url.now ≡ true =
    grind (arith, c.is_data.ensures, c.if-not-is_data.false) in
    ap spec.some_map (c.in-Ok.ensures.value ∙ ap (spec.of_data e) c.without_fragment.ensures)
    ∙ map_is e c.args.url.now fits

pub returns-in-Err-clause-fault : goal.returns-in-Err-clause-fault
returns-in-Err-clause-fault c =
    let e = c.args.engine.now in
    let fits : spec.is_data c.args.url.now ≡ true =
    grind (arith, c.is_data.ensures, c.if-not-is_data.false) in
    ⊎_elim inl
    (λ is. inr (sym (map_is e c.args.url.now fits)
    ∙ ap spec.some_map (ap (spec.of_data e) (sym c.without_fragment.ensures) ∙ is)))
    c.in-Err.ensures.fault
