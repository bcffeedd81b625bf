use Rattle.std.proofs.Common.{◌==◌, not, rules}
use Rattle.std.proofs.lemmas.List.Elements.{filter_from_retain}
use Rattle.smap_lint_rules.proofs.texts.leave_out_returns.Goals as goal

pub returns : goal.returns
returns c = filter_from_retain _ (λ b. not (b == 13))
    (λ p x b q is. search rules) _ _ _ c.retain.ensures.filtered
