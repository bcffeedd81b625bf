-- the number of segments that begin up to a place
use Rattle.std.proofs.Common.{◌≡◌, ◌-◌, ◌==◌, ◌<◌, ◌≤◌, ◌∙◌, ℕ, true, false, List, [], ◌∷◌, Option, None}
use Rattle.std.proofs.Common.{zero, suc, refl, arith, nat_le, length, get_or, not, sym}
use Rattle.std.specs.List.{list_any}
use Rattle.std.proofs.Common.{ap, inl, inr, subst}
use Rattle.std.proofs.lemmas.Bool.{cases_lt, cases_order}
use Rattle.std.proofs.lemmas.Bool.Decides.{nat_tests}
use Rattle.std.proofs.lemmas.List.Folds.{list_any_at, list_any_none}
use Rattle.smap_functions.specs.declared.found.Function.{Function}
use Rattle.smap_functions.specs.declared.segments.Segment.{Segment}
use Rattle.smap_functions.specs.Segments.{Counts, is_between, rise, said}

pub le-true : (m n : ℕ) → nat_le m n ≡ true → m ≤ n
le-true m n h = grind (arith, nat_tests)

pub le-false : (m n : ℕ) → nat_le m n ≡ false → n < m
le-false m n h = grind (arith, nat_tests)

pub true-le : (m n : ℕ) → m ≤ n → nat_le m n ≡ true
true-le m n h = grind (arith, nat_tests)

-- no segment begins before an earlier one
pub starts-rise : (ss : List Segment) (n i j : ℕ) (d : Segment) → rise n ss ≡ true → i ≤ j → j < length ss
    → (n ≤ (get_or ss i d).start) × ((get_or ss i d).start ≤ (get_or ss j d).start)
starts-rise [] n i j d r le lt = absurd (omega (arith, lt))
starts-rise (s ∷ ss) n zero zero d r le lt = grind (arith, nat_tests)
starts-rise (s ∷ ss) n (suc i) zero d r le lt = absurd (omega (arith, le))
starts-rise (s ∷ ss) n zero (suc j) d r le lt =
    first s ss n j d r (λ h. (starts-rise ss s.start j j d h (omega arith) (omega (arith, lt))).0)
  where
    first : (s : Segment) (ss : List Segment) (n j : ℕ) (d : Segment) → rise n (s ∷ ss) ≡ true
        → (rise s.start ss ≡ true → s.start ≤ (get_or ss j d).start)
        → (n ≤ s.start) × (s.start ≤ (get_or ss j d).start)
    first s ss n j d r rest = (grind (arith, nat_tests), grind (arith, nat_tests))
starts-rise (s ∷ ss) n (suc i) (suc j) d r le lt =
    later s ss n i j d r (λ h. starts-rise ss s.start i j d h (omega (arith, le)) (omega (arith, lt)))
  where
    later : (s : Segment) (ss : List Segment) (n i j : ℕ) (d : Segment) → rise n (s ∷ ss) ≡ true
        → (rise s.start ss ≡ true
        → (s.start ≤ (get_or ss i d).start) × ((get_or ss i d).start ≤ (get_or ss j d).start))
        → (n ≤ (get_or ss i d).start) × ((get_or ss i d).start ≤ (get_or ss j d).start)
    later s ss n i j d r rest =
        let parts = rest (grind (arith, nat_tests)) in
        let low : n ≤ s.start = grind (arith, nat_tests) in
        (omega (arith, low, parts.0), parts.1)

rest : (s : Segment) (ss : List Segment) (p n : ℕ) → Counts (s ∷ ss) p (suc n) → Counts ss p n
rest s ss p n c = record {
  within = omega (arith, c.within);
  begun = λ k d lt. c.begun (suc k) d (omega (arith, lt));
  waiting = λ k d le lt. c.waiting (suc k) d (omega (arith, le)) (omega (arith, lt));
}

rest-none : (s : Segment) (ss : List Segment) (p : ℕ) → Counts (s ∷ ss) p zero → Counts ss p zero
rest-none s ss p c = record {
  within = omega arith;
  begun = λ k d lt. absurd (omega (arith, lt));
  waiting = λ k d le lt. c.waiting (suc k) d (omega arith) (omega (arith, lt));
}

-- what the last of so many says
abbrev counted : ℕ → List Segment → Segment → Option Function → Option Function
counted zero ss d found = found
counted (suc n) ss d found = (get_or ss n d).innermost

said_counted : (ss : List Segment) (p n : ℕ) (found : Option Function) (d : Segment) → Counts ss p n
    → said ss p found ≡ counted n ss d found
said_counted [] p zero found d c = refl
said_counted [] p (suc n) found d c = absurd (omega (arith, c.within))
said_counted (s ∷ ss) p zero found d c =
    skip s ss p found (c.waiting 0 d (omega arith) (omega arith))
    (said_counted ss p zero found d (rest-none s ss p c))
  where
    skip : (s : Segment) (ss : List Segment) (p : ℕ) (found : Option Function) → p < s.start
        → said ss p found ≡ found → said (s ∷ ss) p found ≡ found
    skip s ss p found lt e = grind (arith, nat_tests)
said_counted (s ∷ ss) p (suc zero) found d c =
    one s ss p found (c.begun 0 d (omega arith)) (said_counted ss p zero s.innermost d (rest s ss p zero c))
  where
    one : (s : Segment) (ss : List Segment) (p : ℕ) (found : Option Function) → s.start ≤ p
        → said ss p s.innermost ≡ s.innermost → said (s ∷ ss) p found ≡ s.innermost
    one s ss p found le e = grind (arith, nat_tests)
said_counted (s ∷ ss) p (suc (suc n)) found d c =
    more s ss p found (get_or ss n d).innermost (c.begun 0 d (omega arith))
    (said_counted ss p (suc n) s.innermost d (rest s ss p (suc n) c))
  where
    more : (s : Segment) (ss : List Segment) (p : ℕ) (found there : Option Function) → s.start ≤ p
        → said ss p s.innermost ≡ there → said (s ∷ ss) p found ≡ there
    more s ss p found there le e = grind (arith, nat_tests)

-- what is said of a place up to which none begins, or so many do
pub said-zero : (ss : List Segment) (p n : ℕ) → n ≡ 0 → Counts ss p n → said ss p None ≡ None
said-zero ss p n e c =
    said_counted ss p 0 None (record { start = 0; innermost = None }) (subst (λ k. Counts ss p k) e c)

pub said-more : (ss : List Segment) (p n : ℕ) (d : Segment) → 0 < n → Counts ss p n
    → said ss p None ≡ (get_or ss (n - 1) d).innermost
said-more ss p zero d lt c = absurd (omega (arith, lt))
said-more ss p (suc n) d lt c =
    let e : n ≡ suc n - 1 = omega arith in
    said_counted ss p (suc n) None d c ∙ ap (λ k. (get_or ss k d).innermost) e

-- none that begins later comes before one that begins up to a place
pub partitioned : (ss : List Segment) (p i j : ℕ) (d : Segment) → rise 0 ss ≡ true → i ≤ j → j < length ss
    → nat_le (get_or ss j d).start p ≡ true → nat_le (get_or ss i d).start p ≡ true
partitioned ss p i j d r le lt up =
    let order = (starts-rise ss 0 i j d r le lt).1 in
    let at : (get_or ss j d).start ≤ p = le-true (get_or ss j d).start p up in
    true-le (get_or ss i d).start p (omega (arith, order, at))

not-between : (p q place : ℕ) → (place ≤ p → place ≤ q) → (place ≤ q → place ≤ p)
    → is_between p q place ≡ false
not-between p q place f g = grind (arith, nat_tests)

between : (p q place : ℕ) → p < place → place ≤ q → is_between p q place ≡ true
between p q place f g = grind (arith, nat_tests)

between-back : (p q place : ℕ) → q < place → place ≤ p → is_between p q place ≡ true
between-back p q place f g = grind (arith, nat_tests)

eq-true : (m n : ℕ) → m ≡ n → (m == n) ≡ true
eq-true m n e = grind (arith, nat_tests)

lt-false : (m n : ℕ) → m < n → (m == n) ≡ false
lt-false m n e = grind (arith, nat_tests)

gt-false : (m n : ℕ) → n < m → (m == n) ≡ false
gt-false m n e = grind (arith, nat_tests)

-- as many begin up to each of two places exactly if none begins between them
pub counted_alike : (ss : List Segment) (p q m n : ℕ) → Counts ss p m → Counts ss q n
    → (m == n) ≡ not (list_any (λ s. is_between p q s.start) ss)
counted_alike ss p q m n a b =
    let d : Segment = record { start = 0; innermost = None } in
    let test = λ (s : Segment). is_between p q s.start in
    elim (cases_order m n) [
      | inl e ↦ eq-true m n e ∙ sym (ap not (list_any_none test ss (λ k c lt. elim (cases_lt k m) [
        | inl less ↦
            let up : (get_or ss k c).start ≤ p = a.begun k c less in
            let to : (get_or ss k c).start ≤ q = b.begun k c (omega (arith, less, e)) in
            not-between p q (get_or ss k c).start (λ _. to) (λ _. up)
        | inr ge ↦
            let up : p < (get_or ss k c).start = a.waiting k c ge lt in
            let to : q < (get_or ss k c).start = b.waiting k c (omega (arith, ge, e)) lt in
            not-between p q (get_or ss k c).start (λ h. omega (arith, up, h)) (λ h. omega (arith, to, h))
      ])))
      | inr (inl lt) ↦
          let in' : m < length ss = omega (arith, lt, b.within) in
          let up : p < (get_or ss m d).start = a.waiting m d (omega arith) in' in
          lt-false m n lt
          ∙ sym (ap not (list_any_at test ss m d in' (between p q (get_or ss m d).start up (b.begun m d lt))))
      | inr (inr gt) ↦
          let in' : n < length ss = omega (arith, gt, a.within) in
          let up : q < (get_or ss n d).start = b.waiting n d (omega arith) in' in
          gt-false m n gt
          ∙ sym (ap not (list_any_at test ss n d in'
          (between-back p q (get_or ss n d).start up (a.begun n d gt))))
    ]
