use Rattle.std.proofs.Common.{◌≡◌, ℕ, IfOk, List, string_bytes, subst}
use Rattle.serde_json.specs.View.{view}
use Rattle.smap_differences.proofs.ListLemmas.{sized}
use Rattle.smap_differences.proofs.showing.size_of.Goals as goal

pub returns-in-Some : goal.returns-in-Some
returns-in-Some c =
    subst (λ (x : List ℕ). IfOk c.entries_size.result (λ t. string_bytes t ≡ x))
    (sized (view c.args.value.now) c.deref.result.now c.in-Some.entries.now.items c.deref.ensures.value
    c.in-Some.ensures)
    c.entries_size.ensures
