use Rattle.std.proofs.Common.{◌≡◌, ℕ, IfOk, List, string_bytes, subst}
use Rattle.serde_json.specs.View.{view}
use Rattle.smap_differences.proofs.ListLemmas.{arrays}
use Rattle.smap_differences.proofs.comparing.value_change.Goals as goal

pub returns-in-Some-Some : goal.returns-in-Some-Some
returns-in-Some-Some c =
    subst (λ (x : List ℕ). IfOk c.array_change.result (λ t. string_bytes t ≡ x))
    (arrays c.args.name.now (view c.args.before.now) (view c.args.now.now) c.deref.result.now
    c.deref-in-Some-Some.result.now c.in-Some-Some.before.now.items c.in-Some-Some.now.now.items
    c.deref.ensures.value c.deref-in-Some-Some.ensures.value c.in-Some-Some.ensures c.in-Some-Some.ensures')
    c.array_change.ensures
