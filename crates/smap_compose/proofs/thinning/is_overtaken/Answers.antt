use Rattle.std.proofs.Common.{◌∙◌}
use Rattle.smap_compose.proofs.SpareLemmas.{next_at}
use Rattle.smap_compose.proofs.thinning.is_overtaken.Goals as goal

pub returns : goal.returns
returns c = λ m found. c.are_at_one.ensures
    ∙ next_at c.args.map.now.listing c.args.i c.listed_token.result c.listed_token-2.result m
    c.listed_token.ensures c.listed_token-2.ensures found
