-- The unsigned value of digits, as it grows digit by digit.
use Rattle.std.proofs.Common.{◌≡◌, ℕ, zero, suc, ◌+◌, ◌*◌, ◌^◌, ◌%◌, ◌<◌, ◌≤◌, min, List, [], ◌∷◌, ◌++◌}
use Rattle.std.proofs.Common.{length, arith, inl, inr, length-append}
use Rattle.std.proofs.Math.Nat.{pow-succ'}
use Rattle.std.proofs.lemmas.Bool.{cases_lt}
use Rattle.std.proofs.lemmas.Bool.Decides.{nat_tests}
use Rattle.smap_vlq.specs.Number.{unsigned, number_of}

-- What a total and a weight say of the digits so far: their unsigned value up to 2 ^ 32, and what the next
-- digit is worth up to 2 ^ 35.
pub record Stands (total weight : ℕ) (digits : List ℕ) : Type 0 where
  pub total_is : total ≡ min (unsigned digits) (2 ^ 32)
  pub weight_is : weight ≡ min (32 ^ length digits) (2 ^ 35)

-- a further digit is worth 32 for each digit before it
pub unsigned-push : (ds : List ℕ) (d : ℕ) → unsigned (ds ++ d ∷ []) ≡ unsigned ds + (d % 32) * 32 ^ length ds
unsigned-push [] d = omega arith
unsigned-push (e ∷ ds) d = let p = pow-succ' 32 (length ds) in rw (unsigned-push ds d, p) (omega arith)

saturated : (u low w M N : ℕ) → M ≤ N → min (min u M + low * min w N) M ≡ min (u + low * w) M
saturated u low w M N le =
    elim (cases_lt N w) [
      | inr small ↦ let e : min w N ≡ w = omega arith in rw e (omega arith)
      | inl large ↦ let e : min w N ≡ N = omega arith in rw e (saturated_large u low w M N le large)
    ]
  where
    saturated_large : (u low w M N : ℕ) → M ≤ N → N < w → min (min u M + low * N) M ≡ min (u + low * w) M
    saturated_large u zero w M N le large = omega arith
    saturated_large u (suc l) w M N le large =
        let p : M ≤ suc l * N = grind arith in
        let q : M ≤ suc l * w = grind arith in
        omega arith

pub number_of-min : (u : ℕ) → number_of (min u (2 ^ 32)) ≡ number_of u
number_of-min u = grind (arith, nat_tests)

pub Stands-push : (total weight : ℕ) (digits : List ℕ) (d : ℕ) → Stands total weight digits
    → Stands (min (total + (d % 32) * weight) (2 ^ 32)) (min (weight * 32) (2 ^ 35)) (digits ++ d ∷ [])
Stands-push total weight digits d s = record {
  total_is = rw (s.total_is, s.weight_is, unsigned-push digits d)
      (saturated (unsigned digits) (d % 32) (32 ^ length digits) (2 ^ 32) (2 ^ 35) (omega arith));
  weight_is = let l : length (digits ++ d ∷ []) ≡ suc (length digits) = omega
      (arith, length-append digits (d ∷ [])) in rw (s.weight_is, l, pow-succ' 32 (length digits))
      (omega arith);
}
