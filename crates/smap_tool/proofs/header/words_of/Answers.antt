use Rattle.std.proofs.Common.{◌∙◌, ℕ, List, [], ◌∷◌, ◌++◌, Some, codes, ap, sym}
use Rattle.std.proofs.lemmas.Bool.Decides.{Decides-eqb}
use Rattle.std.proofs.lemmas.Slice.Eq.{strip_prefix_is, strip_suffix_is}
use Rattle.smap_tool.proofs.header.words_of.Goals as goal

pub returns-in-Ok : goal.returns-in-Ok
returns-in-Ok c =
    let front = strip_prefix_is Decides-eqb c.args.line.now (codes "map ") (Some c.in_ok-strip_prefix.field-0)
    c.in_ok-strip_prefix.ensures.cases in
    let rest = strip_suffix_is Decides-eqb c.in_ok-strip_prefix.field-0.now (10 ∷ [])
    (Some c.in_ok-words.words) c.in_ok-words.ensures.cases in
    front ∙ ap (λ (xs : List ℕ). codes "map " ++ xs) (rest
    ∙ ap (λ (xs : List ℕ). xs ++ 10 ∷ []) (sym c.in-Ok.ensures.cases.0))
