-- Where a URL may begin, one place after the other.
use Rattle.std.proofs.Common.{◌≡◌, ℕ, zero, suc, ◌-◌, ◌<◌, ◌≤◌, Bool, true, false, ◌||◌, cond, List, []}
use Rattle.std.proofs.Common.{◌∷◌, Option, None, Some, nat_lt, take, get_or, refl, ap, sym}
use Rattle.std.proofs.Common.{◌∙◌, arith}
use Rattle.std.specs.List.{find, slice_get, slice_range}
use Rattle.std.specs.Option.{option_or}
use Rattle.std.proofs.lemmas.Bool.Decides.{nat_tests}
use Rattle.smap_frames.specs.Places.{may_begin}
use Rattle.smap_logs.specs.Beginnings.{begins_with_root, begins_with_scheme, chosen, last, starts_below}
use Rattle.smap_logs.specs.Bytes.{ends_url}
use Rattle.smap_logs.specs.declared.beginnings.Beginnings.{Beginnings}

-- what was found, and behind it the same of these places
abbrev pub extended : List ℕ → ℕ → Beginnings → List ℕ → Beginnings
extended line end found starts = record {
  nearest = option_or found.nearest (chosen line end starts).nearest;
  scheme = option_or found.scheme (chosen line end starts).scheme;
  root = option_or found.root (chosen line end starts).root;
  farthest = option_or (last starts) found.farthest;
}

abbrev made : Option ℕ → Option ℕ → Option ℕ → Option ℕ → Beginnings
made n s r f = record { nearest = n; scheme = s; root = r; farthest = f }

made_same : (n s r f n' s' r' f' : Option ℕ) → n ≡ n' → s ≡ s' → r ≡ r' → f ≡ f'
    → made n s r f ≡ made n' s' r' f'
made_same n s r f n' s' r' f' p q t u = rw (p, q, t, u) refl

or_some : (x y : Option ℕ) (s : ℕ) → option_or x (Some s) ≡ option_or (option_or x (Some s)) y
or_some None y s = refl
or_some (Some x) y s = refl

or_find : (x y : Option ℕ) (b : Bool) (s : ℕ)
    → option_or x (cond b (Some s) y) ≡ option_or (option_or x (cond b (Some s) None)) y
or_find None y true s = refl
or_find None y false s = refl
or_find (Some x) y true s = refl
or_find (Some x) y false s = refl

pub or_none : {X : Type 0} (x : Option X) → option_or x None ≡ x
or_none None = refl
or_none (Some x) = refl

last_some : {X : Type 0} (y : X) (ys : List X) (d e : Option X)
    → option_or (last (y ∷ ys)) d ≡ option_or (last (y ∷ ys)) e
last_some y [] d e = refl
last_some y (z ∷ zs) d e = last_some z zs d e

pub last_more : {X : Type 0} (s : X) (ss : List X) (f : Option X)
    → option_or (last (s ∷ ss)) f ≡ option_or (last ss) (Some s)
last_more s [] f = refl
last_more s (y ∷ ys) f = last_some y ys f (Some s)

-- one place more
pub extended_one : (line : List ℕ) (end : ℕ) (found next : Beginnings) (s : ℕ) (ss : List ℕ)
    → next.nearest ≡ option_or found.nearest (Some s)
    → next.scheme ≡ option_or found.scheme (cond (begins_with_scheme (slice_range line s end)) (Some s) None)
    → next.root ≡ option_or found.root (cond (begins_with_root (slice_range line s end)) (Some s) None)
    → next.farthest ≡ Some s
    → extended line end next ss ≡ extended line end found (s ∷ ss)
extended_one line end found next s ss p q r t =
    let scheme = λ (i : ℕ). begins_with_scheme (slice_range line i end) in
    let root = λ (i : ℕ). begins_with_root (slice_range line i end) in
    made_same _ _ _ _ _ _ _ _
    (ap (λ (o : Option ℕ). option_or o (slice_get ss 0)) p ∙ sym (or_some found.nearest (slice_get ss 0) s))
    (ap (λ (o : Option ℕ). option_or o (find scheme ss)) q
    ∙ sym (or_find found.scheme (find scheme ss) (scheme s) s))
    (ap (λ (o : Option ℕ). option_or o (find root ss)) r ∙ sym (or_find found.root (find root ss) (root s) s))
    (ap (λ (o : Option ℕ). option_or (last ss) o) t ∙ sym (last_more s ss found.farthest))

-- no place more
pub extended_none : (line : List ℕ) (end : ℕ) (found : Beginnings) → extended line end found [] ≡ found
extended_none line end found =
    made_same _ _ _ _ _ _ _ _ (or_none found.nearest) (or_none found.scheme) (or_none found.root) refl

not_low : (at low : ℕ) → low ≤ at → nat_lt at low ≡ false
not_low at low h = grind (arith, nat_tests)

low_is : (at low : ℕ) → at < low → nat_lt at low ≡ true
low_is at low h = grind (arith, nat_tests)

taken : (l e m : Bool) (at : ℕ) (rest : List ℕ) → l ≡ false → e ≡ false → m ≡ true
    → cond (l || e) [] (cond m (at ∷ rest) rest) ≡ at ∷ rest
taken l e m at rest p q r = rw (p, q, r) refl

passed : (l e m : Bool) (at : ℕ) (rest : List ℕ) → l ≡ false → e ≡ false → m ≡ false
    → cond (l || e) [] (cond m (at ∷ rest) rest) ≡ rest
passed l e m at rest p q r = rw (p, q, r) refl

or-true : (l e : Bool) → e ≡ true → (l || e) ≡ true
or-true true e q = refl
or-true false e q = q

stopped : (l e : Bool) (rest : List ℕ) → e ≡ true → cond (l || e) [] rest ≡ []
stopped l e rest q = rw (or-true l e q) refl

module _ (line : List ℕ) (low n : ℕ) (some : low < n) where
  whole : n ≡ suc (n - 1)
  whole = omega arith

  pub starts_one : ends_url (get_or line (n - 1) 0) ≡ false → may_begin (take (n - 1) line) ≡ true
      → starts_below line low n ≡ (n - 1) ∷ starts_below line low (n - 1)
  starts_one q r = ap (λ (i : ℕ). starts_below line low i) whole
      ∙ taken _ _ _ (n - 1) (starts_below line low (n - 1)) (not_low (n - 1) low (omega arith)) q r

  pub starts_none : ends_url (get_or line (n - 1) 0) ≡ false → may_begin (take (n - 1) line) ≡ false
      → starts_below line low n ≡ starts_below line low (n - 1)
  starts_none q r = ap (λ (i : ℕ). starts_below line low i) whole
      ∙ passed _ _ _ (n - 1) (starts_below line low (n - 1)) (not_low (n - 1) low (omega arith)) q r

  pub starts_stopped : ends_url (get_or line (n - 1) 0) ≡ true → starts_below line low n ≡ []
  starts_stopped q = ap (λ (i : ℕ). starts_below line low i) whole ∙ stopped _ _ _ q

pub starts_end : (line : List ℕ) (low n : ℕ) → n ≤ low → starts_below line low n ≡ []
starts_end line low zero h = refl
starts_end line low (suc at) h =
    let e = low_is at low (omega arith) in rw e refl
