-- What was appended begins with what was there.
use Rattle.std.proofs.Common.{◌≡◌, ◌∙◌, ℕ, ◌≤◌, List, ◌++◌, length, take, drop, arith, ap, sym}
use Rattle.std.proofs.Common.{Result, Ok, Err, OnErr, length-take}
use Rattle.std.specs.Io.{StartsWith}
use Rattle.std.proofs.Math.Seq.{take-append_seam}
use Rattle.std.proofs.lemmas.List.{take-append-drop, take-append-le}

pub starts_trans : (p a b : List ℕ) → StartsWith a p → StartsWith b a → StartsWith b p
starts_trans p a b h k =
    let le : length p ≤ length a = omega (arith, length-take {A = ℕ}, ap length h) in
    let split : b ≡ a ++ drop (length a) b = sym (take-append-drop (length a) b)
    ∙ ap (λ (t : List ℕ). t ++ drop (length a) b) k in
    ap (take (length p)) split ∙ take-append-le (length p) a (drop (length a) b) le ∙ h

pub starts_append : (a b xs : List ℕ) → b ≡ a ++ xs → StartsWith b a
starts_append a b xs e = ap (take (length a)) e ∙ take-append_seam a xs

pub on_err : {A E : Type 0} (r : Result A E) (P : Type 0) → P → OnErr r P
on_err (Ok x) P p = tt
on_err (Err e) P p = p
