use Rattle.std.proofs.Common.{◌≡◌, ◌∙◌, ap, refl, sym, false, List, ℕ, [], ◌∷◌, drop}
use Rattle.std.proofs.lemmas.List.{drop_all}
use Rattle.smap_trace_summary.specs.Builds.{differ_in_hash}
use Rattle.smap_trace_summary.proofs.builds.differ_in_hash.Goals as goal

none_is_left : (a : List ℕ) → differ_in_hash a [] ≡ false
none_is_left [] = refl
none_is_left (x ∷ a) = refl

pub returns-then-at-b : goal.returns-then-at-b
returns-then-at-b c =
    let rest = drop c.loop-at.at c.args.a.now in
    sym (c.loop-at.invariant ∙ ap (differ_in_hash rest) (drop_all c.loop-at.at c.args.b.now c.if-at-b.true)
    ∙ none_is_left rest)
