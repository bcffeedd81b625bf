use Rattle.std.proofs.Common.{not, rules}
use Rattle.std.proofs.lemmas.List.Elements.{filter_from_retain}
use Rattle.smap_link.specs.Inline.{is_ascii_white}
use Rattle.smap_link.proofs.inline.leave_out_white.Goals as goal

pub returns : goal.returns
returns c = filter_from_retain _ (λ b. not (is_ascii_white b))
    (λ p x b q is. search rules) _ _ _ c.retain.ensures.filtered
