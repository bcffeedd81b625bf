-- What is made of the items of a list, one after the other.
use Rattle.std.proofs.Common.{◌≡◌, ◌∙◌, ◌+◌, ◌<◌, ◌≤◌, ℕ, suc, List, drop, length, fold, ap, get_or, map}
use Rattle.std.proofs.Common.{drop-cons, drop_of_length-le, sym}
use native.Mathlib.Numerals.{unary_clauses}

fold_suc : {A B C : Type 0} (f : B → A → B) (g : C → A) (b new whole : B) (xs : List C) (i : ℕ) (d : C)
    → i < length xs → new ≡ f b (g (get_or xs i d)) → fold f b (map g (drop i xs)) ≡ whole
    → fold f new (map g (drop (suc i) xs)) ≡ whole
fold_suc f g b new whole xs i d lt is same =
    ap (λ y. fold f y (map g (drop (suc i) xs))) is
    ∙ sym (ap (λ ys. fold f b (map g ys)) (drop-cons xs i d lt)) ∙ same

-- one item more is taken
pub fold_past : {A B C : Type 0} (f : B → A → B) (g : C → A) (b new whole : B) (xs : List C) (i : ℕ) (d : C)
    → i < length xs → new ≡ f b (g (get_or xs i d)) → fold f b (map g (drop i xs)) ≡ whole
    → fold f new (map g (drop (i + 1) xs)) ≡ whole
fold_past f g b new whole xs i d lt is same =
    simp unary_clauses (fold_suc f g b new whole xs i d lt is same)

-- all are taken
pub fold_end : {A B C : Type 0} (f : B → A → B) (g : C → A) (b : B) (xs : List C) (i : ℕ) (whole : B)
    → length xs ≤ i → fold f b (map g (drop i xs)) ≡ whole → b ≡ whole
fold_end f g b xs i whole past same =
    sym (ap (λ ys. fold f b (map g ys)) (drop_of_length-le xs past)) ∙ same
