-- No byte of what is embedded is a `<`.
use Rattle.std.proofs.Common.{◌≡◌, ℕ, ◌==◌, false, List, [], ◌∷◌, ◌++◌, codes, refl}
use Rattle.std.specs.List.{list_any}
use Rattle.std.proofs.lemmas.Bool.{cond_both}
use Rattle.smap_view_page.specs.Embedding.{embedded, embedded_byte}

one : (b : ℕ) (rest : List ℕ) → list_any (λ x. x == 60) rest ≡ false
    → list_any (λ x. x == 60) (embedded_byte b ++ rest) ≡ false
one b rest h = cond_both (b == 60) (codes "\\u003c") (b ∷ [])
    (λ xs. list_any (λ x. x == 60) (xs ++ rest) ≡ false) (λ e. h) (λ e. rw e h)

pub none : (json : List ℕ) → list_any (λ x. x == 60) (embedded json) ≡ false
none [] = refl
none (b ∷ bs) = one b (embedded bs) (none bs)
