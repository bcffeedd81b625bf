use Rattle.std.proofs.Common.{◌≡◌, ◌∙◌, sym, ap, List, ℕ, Bor, Some, false, option_map, string_bytes}
use Rattle.smap_lint_rules.specs.Findings as spec
use Rattle.smap_lint_rules.specs.Ids.{same_id}
use Rattle.smap_lint_rules.proofs.said.different_ids.Goals as goal

pub returns : goal.returns
returns c =
    let of_script : List ℕ = c.in-Some-id_of.of_script.now in
    let of_map : List ℕ = string_bytes c.in-Some.of_map in
    let id : spec.id_of c.args.script ≡ Some of_script =
    sym c.id_of.ensures ∙ ap (option_map (λ (x : Bor (List ℕ)). x.now)) c.in-Some-id_of.is in
    let text : c.as_bytes.result.now ≡ of_map = c.as_bytes.ensures.value ∙ c.as_str.ensures.value in
    let others : same_id of_script of_map ≡ false = sym (rw text at c.same_id.ensures) ∙ c.if-same_id.false in
    let words : string_bytes c.in_ok-id_words.field-0 ≡ spec.id_words of_map of_script =
    rw c.as_str-2.ensures.value at c.in_ok-id_words.ensures in
    rw (c.in-Some.is, id, others) (ap (λ (w : List ℕ). Some w) words)
