use Rattle.smap_link.proofs.InlineLemmas.{if_err, if_ok}
use Rattle.smap_link.proofs.inline.inline_map.Goals as goal

pub returns-clause-value : goal.returns-clause-value
returns-clause-value c =
    if_ok c.inline_map_by.result _ _ (λ found is. (c.forgiving.result, c.forgiving.ensures, is))
    c.inline_map_by.ensures.value

pub returns-clause-fault : goal.returns-clause-fault
returns-clause-fault c =
    if_err c.inline_map_by.result _ _ (λ f is. (c.forgiving.result, c.forgiving.ensures, is))
    c.inline_map_by.ensures.fault
