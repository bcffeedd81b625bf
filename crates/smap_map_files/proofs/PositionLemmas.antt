-- Positions as the lines of a log.
use Rattle.std.proofs.Common.{◌≡◌, ◌∙◌, ℕ, ◌+◌, ◌<◌, List, [], ◌∷◌, ◌++◌, ap, append-nil}
use Rattle.std.proofs.Common.{get_or, length, take}
use Rattle.std.specs.List.{flat_map}
use Rattle.std.proofs.lemmas.Grind.{flat_map-append}
use Rattle.std.proofs.lemmas.List.{take_more}

-- one line more
pub one_more_line : {A : Type 0} (line : A → List ℕ) (words : List A) (i : ℕ) (d : A) → i < length words
    → flat_map line (take (i + 1) words) ≡ flat_map line (take i words) ++ line (get_or words i d)
one_more_line line words i d lt =
    ap (flat_map line) (take_more words i d lt) ∙ flat_map-append line (take i words) (get_or words i d ∷ [])
    ∙ ap (λ ys. flat_map line (take i words) ++ ys) (append-nil (line (get_or words i d)))
