use Rattle.std.proofs.Common.{◌≡◌, inr, subst, arith, List, ℕ, Ok, Err, ◌⊎◌}
use Rattle.std.specs.Prelude.{IfErr, IfOk, Result}
use Rattle.smap_link.specs.declared.inline.InlineFault.{InlineFault}
use Rattle.smap_link.specs.declared.inline.InlineFault.TheVariants as fault
use Rattle.smap_link.proofs.InlineLemmas.{body_is, no_comma}
use Rattle.smap_link.proofs.inline.of_data.Goals as goal

pub returns-then-at-rest-clause-fault : goal.returns-then-at-rest-clause-fault
returns-then-at-rest-clause-fault c =
    inr (no_comma c.args.engine.now c.args.rest.now c.size_before-at.result c.size_before-at.ensures.value
    (omega arith))

pub returns-clause-value : goal.returns-clause-value
returns-clause-value c =
    subst (λ (x : Result (List ℕ) InlineFault). IfOk c.body_of.result (λ v. Ok v.items ≡ x))
    (body_is c.args.engine.now c.args.rest.now c.size_before-at.result c.is_base64.result
    c.size_before-at.ensures.value (omega arith) c.is_base64.ensures) c.body_of.ensures.value

pub returns-clause-fault : goal.returns-clause-fault
returns-clause-fault c =
    subst (λ (x : Result (List ℕ) InlineFault). IfErr c.body_of.result
    (λ e. (e ≡ fault.Memory) ⊎ (x ≡ Err e)))
    (body_is c.args.engine.now c.args.rest.now c.size_before-at.result c.is_base64.result
    c.size_before-at.ensures.value (omega arith) c.is_base64.ensures) c.body_of.ensures.fault
