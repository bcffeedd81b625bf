-- parts put behind one another
use Rattle.std.proofs.Common.{◌≡◌, ◌++◌, ℕ, List, refl, append_assoc}

pub joined : (f w b k x y z : List ℕ) → x ≡ f ++ w → y ≡ x ++ b → z ≡ y ++ k
    → z ≡ f ++ (w ++ (b ++ k))
joined f w b k x y z p q r =
    rw (r, q, p, append_assoc (f ++ w) b k, append_assoc f w (b ++ k)) refl
