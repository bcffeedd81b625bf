-- Lists, and lists that are read behind a front.
use Rattle.std.proofs.Common.{◌≡◌, ℕ, List, [], ◌∷◌, ◌++◌, Result, Ok, Err, refl, sym, ap, append_assoc}
use Rattle.std.proofs.Common.{set, length, ◌∙◌}
use Rattle.std.proofs.Math.Seq.{set-append_seam}
use Rattle.std.specs.List.{AllByRecursion}
use Rattle.smap_vlq.specs.Number.{◌>>=◌}

pub head_is : {A : Type 0} (x y : A) (xs ys : List A) → x ∷ xs ≡ y ∷ ys → x ≡ y
head_is x y xs ys e = cc

pub tail_is : {A : Type 0} (x y : A) (xs ys : List A) → x ∷ xs ≡ y ∷ ys → xs ≡ ys
tail_is x y xs ys e = cc

pub all_append : {A : Type 0} (P : A → Type 0) (xs ys : List A) → AllByRecursion P xs → AllByRecursion P ys
    → AllByRecursion P (xs ++ ys)
all_append P [] ys a b = b
all_append P (x ∷ xs) ys a b = (a.0, all_append P xs ys a.1 b)

pub behind-nil : {A F : Type 0} (r : Result (List A) F) → r ≡ (r >>= λ xs. Ok ([] ++ xs))
behind-nil (Ok xs) = refl
behind-nil (Err f) = refl

pub behind-push : {A F : Type 0} (front : List A) (x : A) (r : Result (List A) F)
    → (r >>= λ xs. Ok (x ∷ xs)) >>= (λ ys. Ok (front ++ ys)) ≡ (r >>= λ xs. Ok ((front ++ x ∷ []) ++ xs))
behind-push front x (Ok xs) = ap (λ l. Ok l) (sym (append_assoc front (x ∷ []) xs))
behind-push front x (Err f) = refl

pub behind-cons : {A F : Type 0} (x : A) (front : List A) (r : Result (List A) F)
    → (r >>= λ xs. Ok (front ++ xs)) >>= (λ ys. Ok (x ∷ ys)) ≡ (r >>= λ xs. Ok (x ∷ (front ++ xs)))
behind-cons x front (Ok xs) = refl
behind-cons x front (Err f) = refl

pub set_next : {A : Type 0} (xs rest : List A) (y z : A) (n : ℕ) → n ≡ length xs
    → set (xs ++ y ∷ rest) n z ≡ (xs ++ z ∷ []) ++ rest
set_next xs rest y z n e = rw e (set-append_seam xs y rest z ∙ sym (append_assoc xs (z ∷ []) rest))
