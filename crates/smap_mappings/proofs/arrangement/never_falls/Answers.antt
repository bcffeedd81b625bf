use Rattle.std.proofs.Common.{◌≡◌, true, ◌-◌, arith, refl, get_or, rules}
use Rattle.smap_mappings.proofs.ArrangementLemmas.{before, never_falls_below, no_token}
use Rattle.smap_mappings.proofs.OrderLemmas.{never_falls_at}
use Rattle.smap_mappings.proofs.arrangement.never_falls.Goals as goal

pub returns-then-lt : goal.returns-then-lt
returns-then-lt c =
    let ts = c.args.tokens.now in
    let i = c.loop-i.i in
    let falls : before (get_or ts i no_token) (get_or ts (i - 1) no_token) ≡ true = search rules in (
      λ y. absurd cc,
      λ h. absurd (let rises = never_falls_at ts h i (i - 1) no_token (omega arith) (omega arith) in cc),
    )

pub returns : goal.returns
returns c = (λ y. never_falls_below c.args.tokens.now c.loop-i.i (omega arith) c.loop-i.invariant, λ h. refl)
