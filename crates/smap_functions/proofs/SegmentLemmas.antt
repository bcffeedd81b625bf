-- a list of segments with those of one more function
use Rattle.std.proofs.Common.{◌≡◌, ◌++◌, ◌+◌, ◌<◌, ◌≤◌, ◌||◌, ◌∙◌, ℕ, Bool, true, false, List, [], ◌∷◌}
use Rattle.std.proofs.Common.{Option, None}
use Rattle.std.proofs.Common.{Some, zero, suc, refl, arith, nat_le, length, take, get_or, cond}
use Rattle.std.proofs.Common.{slice_index_or}
use Rattle.std.proofs.Common.{ap, drop, subst, sym, ◌&&◌}
use Rattle.std.specs.List.{list_any}
use Rattle.std.proofs.lemmas.List.{drop_more, take_more}
use Rattle.std.proofs.lemmas.List.Folds.{list_any-append}
use Rattle.smap_functions.proofs.LastLemmas.{innermost-more}
use Rattle.std.proofs.lemmas.Bool.Decides.{nat_tests}
use Rattle.smap_functions.specs.declared.found.Function.{Function}
use Rattle.smap_functions.specs.declared.segments.Segment.{Segment}
use Rattle.smap_functions.specs.Functions.{encloses, innermost}
use Rattle.smap_functions.specs.Segments.{AddsFunction, divides, is_between, last_says, rise, said}

pub last_says-push : (ss : List Segment) (s : Segment) (found : Option Function)
    → last_says (ss ++ s ∷ []) found ≡ s.innermost
last_says-push [] s found = refl
last_says-push (t ∷ ts) s found = last_says-push ts s t.innermost

-- they may begin earlier
pub rise-earlier : (m n : ℕ) (ss : List Segment) → m ≤ n → rise n ss ≡ true → rise m ss ≡ true
rise-earlier m n [] le r = refl
rise-earlier m n (s ∷ ss) le r = grind (arith, nat_tests)

-- none begins up to the place
pub said-none : (ss : List Segment) (n p : ℕ) (found : Option Function) → p < n → rise n ss ≡ true
    → said ss p found ≡ found
said-none [] n p found lt r = refl
said-none (s ∷ ss) n p found lt r = one s ss n p found lt r (said-none ss s.start p found)
  where
    one : (s : Segment) (ss : List Segment) (n p : ℕ) (found : Option Function) → p < n
        → rise n (s ∷ ss) ≡ true → (p < s.start → rise s.start ss ≡ true → said ss p found ≡ found)
        → said (s ∷ ss) p found ≡ found
    one s ss n p found lt r rest = grind (arith, nat_tests)

pub rise-without : (xs : List Segment) (n : ℕ) (a b : Segment) (ys : List Segment)
    → rise n (xs ++ a ∷ b ∷ ys) ≡ true → rise n (xs ++ ys) ≡ true
rise-without [] n a b ys r = go n a b ys r (rise-earlier n b.start ys)
  where
    go : (n : ℕ) (a b : Segment) (ys : List Segment) → rise n (a ∷ b ∷ ys) ≡ true
        → (n ≤ b.start → rise b.start ys ≡ true → rise n ys ≡ true) → rise n ys ≡ true
    go n a b ys r rest = grind (arith, nat_tests)
rise-without (x ∷ xs) n a b ys r = one x xs n a b ys r (rise-without xs x.start a b ys)
  where
    one : (x : Segment) (xs : List Segment) (n : ℕ) (a b : Segment) (ys : List Segment)
        → rise n ((x ∷ xs) ++ a ∷ b ∷ ys) ≡ true
        → (rise x.start (xs ++ a ∷ b ∷ ys) ≡ true → rise x.start (xs ++ ys) ≡ true)
        → rise n ((x ∷ xs) ++ ys) ≡ true
    one x xs n a b ys r rest = grind (arith, nat_tests)

-- what the last says, by its index
pub last_at : (ss : List Segment) (n : ℕ) (d : Segment) (found : Option Function) → length ss ≡ n + 1
    → last_says ss found ≡ (slice_index_or ss n d).innermost
last_at [] n d found le = absurd (omega (arith, le))
last_at (s ∷ []) zero d found le = refl
last_at (s ∷ []) (suc n) d found le = absurd (omega (arith, le))
last_at (s ∷ t ∷ ts) zero d found le = absurd (omega (arith, le))
last_at (s ∷ t ∷ ts) (suc n) d found le = last_at (t ∷ ts) n d s.innermost (omega arith)

-- one function more, behind these segments and before those
abbrev with_function : List Segment → Function → Option Function → List Segment → List Segment
with_function xs f around ys = xs ++ record { start = f.start; innermost = Some f }
    ∷ record { start = f.end; innermost = around } ∷ ys

said-here : (f : Function) (found : Option Function) (ys : List Segment) (n p : ℕ)
    → rise n (with_function [] f found ys) ≡ true
    → (p < f.end → rise f.end ys ≡ true → said ys p (Some f) ≡ Some f)
    → said (with_function [] f found ys) p found ≡ cond (encloses p f) (Some f) (said ys p found)
said-here f found ys n p r rest = grind (arith, nat_tests)

starts-behind : (xs : List Segment) (f : Function) (around : Option Function) (ys : List Segment) (n : ℕ)
    → rise n (with_function xs f around ys) ≡ true → n ≤ f.start
starts-behind [] f around ys n r = grind (arith, nat_tests)
starts-behind (x ∷ xs) f around ys n r = one x xs f around ys n r (starts-behind xs f around ys x.start)
  where
    one : (x : Segment) (xs : List Segment) (f : Function) (around : Option Function) (ys : List Segment)
        (n : ℕ) → rise n (x ∷ with_function xs f around ys) ≡ true
        → (rise x.start (with_function xs f around ys) ≡ true → x.start ≤ f.start) → n ≤ f.start
    one x xs f around ys n r rest = grind (arith, nat_tests)

pub said-with : (xs : List Segment) (f : Function) (found : Option Function) (ys : List Segment) (n p : ℕ)
    → rise n (with_function xs f (last_says xs found) ys) ≡ true
    → said (with_function xs f (last_says xs found) ys) p found
    ≡ cond (encloses p f) (Some f) (said (xs ++ ys) p found)
said-with [] f found ys n p r = said-here f found ys n p r (said-none ys f.end p (Some f))
said-with (x ∷ xs) f found ys n p r = one x xs f found ys n p r
    (said-with xs f x.innermost ys x.start p)
    (said-none (with_function xs f (last_says xs x.innermost) ys) x.start p found)
    (said-none (xs ++ ys) x.start p found)
    (rise-without xs x.start (record { start = f.start; innermost = Some f })
    (record { start = f.end; innermost = last_says xs x.innermost }) ys)
    (starts-behind xs f (last_says xs x.innermost) ys x.start)
  where
    one : (x : Segment) (xs : List Segment) (f : Function) (found : Option Function) (ys : List Segment)
        (n p : ℕ) → rise n (x ∷ with_function xs f (last_says xs x.innermost) ys) ≡ true
        → (rise x.start (with_function xs f (last_says xs x.innermost) ys) ≡ true
        → said (with_function xs f (last_says xs x.innermost) ys) p x.innermost
        ≡ cond (encloses p f) (Some f) (said (xs ++ ys) p x.innermost))
        → (p < x.start → rise x.start (with_function xs f (last_says xs x.innermost) ys) ≡ true
        → said (with_function xs f (last_says xs x.innermost) ys) p found ≡ found)
        → (p < x.start → rise x.start (xs ++ ys) ≡ true → said (xs ++ ys) p found ≡ found)
        → (rise x.start (with_function xs f (last_says xs x.innermost) ys) ≡ true
        → rise x.start (xs ++ ys) ≡ true)
        → (rise x.start (with_function xs f (last_says xs x.innermost) ys) ≡ true → x.start ≤ f.start)
        → said (x ∷ with_function xs f (last_says xs x.innermost) ys) p found
        ≡ cond (encloses p f) (Some f) (said (x ∷ (xs ++ ys)) p found)
    one x xs f found ys n p r rest none other without behind = grind (arith, nat_tests)

-- the segments say of each place which of these functions is innermost, and begin where they begin or end
abbrev pub Say : List Function → List Segment → Type 0
Say fs ss = ((p : ℕ) → said ss p None ≡ innermost fs p)
    × ((p q : ℕ) → list_any (λ s. is_between p q s.start) ss ≡ list_any (divides p q) fs)

any-more : (a b s e x : Bool) → (a || b) ≡ x → (a || (s || (e || b))) ≡ (x || ((s || e) || false))
any-more a b s e x is = grind arith

pub function_added : (fs : List Function) (i : ℕ) (d g : Function) (old new : List Segment)
    → i < length fs → get_or fs i d ≡ g → AddsFunction g old new
    → (rise 0 old ≡ true → Say (take i fs) old) → rise 0 new ≡ true → Say (take (i + 1) fs) new
function_added fs i d g old new in' at a say r =
    let a-start : Segment = record { start = g.start; innermost = Some g } in
    let a-end : Segment = record { start = g.end; innermost = last_says a.before None } in
    let rises : rise 0 (with_function a.before g (last_says a.before None) a.behind) ≡ true
    = subst (λ u. rise 0 u ≡ true) a.new_is r in
    let before : Say (take i fs) old
    = say (subst (λ u. rise 0 u ≡ true) (sym a.old_is)
    (rise-without a.before 0 a-start a-end a.behind rises)) in (
      λ p. ap (λ (u : List Segment). said u p None) a.new_is
          ∙ said-with a.before g None a.behind 0 p rises
          ∙ ap (λ (u : List Segment). cond (encloses p g) (Some g) (said u p None)) (sym a.old_is)
          ∙ subst (λ u. cond (encloses p u) (Some u) (said old p None) ≡ innermost (take (i + 1) fs) p) at
          (innermost-more fs i d p (said old p None) in' (before.0 p)),
      λ p q.
          let b = λ (s : Segment). is_between p q s.start in
          let joined : (list_any b a.before || list_any b a.behind) ≡ list_any (divides p q) (take i fs)
          = sym (list_any-append b a.before a.behind)
          ∙ ap (λ (u : List Segment). list_any b u) (sym a.old_is) ∙ before.1 p q in
          let at-start = is_between p q g.start in
          let at-end = is_between p q g.end in
          ap (λ (u : List Segment). list_any b u) a.new_is
          ∙ list_any-append b a.before (a-start ∷ a-end ∷ a.behind)
          ∙ any-more (list_any b a.before) (list_any b a.behind) at-start at-end
          (list_any (divides p q) (take i fs)) joined
          ∙ sym (list_any-append (divides p q) (take i fs) (g ∷ []))
          ∙ ap (λ (u : List Function). list_any (divides p q) u)
          (sym (subst (λ u. take (i + 1) fs ≡ take i fs ++ u ∷ []) at (take_more fs i d in'))),
    )

-- the rest of the segments, from this one on
pub rise_rest : (ss : List Segment) (i : ℕ) (d : Segment) (n : ℕ) → i < length ss
    → rise n (drop i ss) ≡ nat_le n (get_or ss i d).start && rise (get_or ss i d).start (drop (i + 1) ss)
rise_rest ss i d n in' = ap (λ (u : List Segment). rise n u) (drop_more ss i d in')
