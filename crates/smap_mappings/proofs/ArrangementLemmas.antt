-- A sorted list in which ties keep their order is the arrangement.
use Rattle.std.proofs.Common.{◌≡◌, ℕ, zero, suc, ◌+◌, ◌<◌, ◌≤◌, true, false, cond, List, [], ◌∷◌, length}
use Rattle.std.proofs.Common.{get_or, Bool, map, filter, refl, sym, ap, ◌∙◌, arith, None}
use Rattle.std.specs.Cmp.{IsStrictWeakOrder}
use Rattle.std.specs.List.Sorted.{IsSortedBy, IsStableBy, ties}
use Rattle.std.proofs.lemmas.Bool.{cond_both}
use Rattle.std.proofs.lemmas.Bool.Decides.{nat_tests}
use Rattle.std.proofs.lemmas.List.Elements.{filter_agree}
use Rattle.smap_mappings.specs.declared.token.Token.{Token}
use Rattle.smap_mappings.specs.Position.{is_before, position_of, NeverFalls}
use Rattle.smap_mappings.specs.Arrangement.{is_at, insert_token, arranged, IsArranged}

abbrev pub before : Token → Token → Bool
before a b = is_before (position_of a) (position_of b)

pub before_order : IsStrictWeakOrder before
before_order = record { one_way = one_way; chain = chain }
  where
    one_way : (x y : Token) → before x y ≡ true → before y x ≡ false
    one_way x y e = grind (arith, nat_tests)

    chain : (x y z : Token) → before x y ≡ false → before y z ≡ false → before x z ≡ false
    chain x y z p q = grind (arith, nat_tests)

-- stands for what is read past the end of a list
abbrev pub no_token : Token
no_token = record { line = 0; column = 0; original = None }

abbrev AreInOrder : List Token → Type 0
AreInOrder ts = NeverFalls (map position_of ts)

-- None of the first tokens lies before the one in front of it.
abbrev pub InOrderBelow : List Token → ℕ → Type 0
InOrderBelow ts n = (j k : ℕ) (d : Token) → j ≡ k + 1 → j < n → before (get_or ts j d) (get_or ts k d) ≡ false

pub never_falls_below : (ts : List Token) (n : ℕ) → length ts ≤ n → InOrderBelow ts n → AreInOrder ts
never_falls_below [] n le h = tt
never_falls_below (t ∷ []) n le h = tt
never_falls_below (t ∷ u ∷ us) zero le h = absurd (omega arith)
never_falls_below (t ∷ u ∷ us) (suc n) le h = (
  h 1 0 t (omega arith) (omega arith),
  never_falls_below (u ∷ us) n (omega arith) (λ j k d e lt. h (suc j) (suc k) d (omega arith) (omega arith)),
)

-- ---- tokens in order that stand at the same positions

-- each position has the same tokens in both lists, in the same order
abbrev AreAtSame : List Token → List Token → Type 0
AreAtSame ts us = (line column : ℕ) → filter (is_at line column) ts ≡ filter (is_at line column) us

none_more : (t u : Token) (us : List Token) → before t u ≡ true → filter (is_at t.line t.column) us ≡ []
    → filter (is_at t.line t.column) (u ∷ us) ≡ []
none_more t u us lt e = grind (arith, nat_tests)

still_before : (t u v : Token) → before t u ≡ true → before v u ≡ false → before t v ≡ true
still_before t u v lt ge = grind (arith, nat_tests)

-- none of the tokens from u on stands where t does, if t lies before u
none_there : (t u : Token) (us : List Token) → before t u ≡ true → AreInOrder (u ∷ us)
    → filter (is_at t.line t.column) (u ∷ us) ≡ []
none_there t u [] lt h = none_more t u [] lt refl
none_there t u (v ∷ vs) lt h =
    none_more t u (v ∷ vs) lt (none_there t v vs (still_before t u v lt h.0) h.1)

none_first : (t : Token) (ts : List Token) → filter (is_at t.line t.column) (t ∷ ts) ≡ [] → ⊥
none_first t ts e = grind (arith, nat_tests)

not_first : (t u : Token) (ts us : List Token) → AreInOrder (u ∷ us) → AreAtSame (t ∷ ts) (u ∷ us)
    → before t u ≡ false
not_first t u ts us h same = grind (arith, none_there t u us, none_first t ts, same t.line t.column)

same_first : (t u : Token) (ts us : List Token) → before t u ≡ false → before u t ≡ false
    → filter (is_at t.line t.column) (t ∷ ts) ≡ filter (is_at t.line t.column) (u ∷ us) → t ≡ u
same_first t u ts us p q e = grind (arith, nat_tests)

drop_first : (t u : Token) (ts us : List Token) (line column : ℕ) → t ≡ u
    → filter (is_at line column) (t ∷ ts) ≡ filter (is_at line column) (u ∷ us)
    → filter (is_at line column) ts ≡ filter (is_at line column) us
drop_first t u ts us line column e h = grind arith

rest_in_order : (t : Token) (ts : List Token) → AreInOrder (t ∷ ts) → AreInOrder ts
rest_in_order t [] h = tt
rest_in_order t (u ∷ us) h = h.1

same_list : (ts us : List Token) → AreInOrder ts → AreInOrder us → AreAtSame ts us → ts ≡ us
same_list [] [] p q h = refl
same_list [] (u ∷ us) p q h = absurd (none_first u us (sym (h u.line u.column)))
same_list (t ∷ ts) [] p q h = absurd (none_first t ts (h t.line t.column))
same_list (t ∷ ts) (u ∷ us) p q h =
    let a = not_first t u ts us q h in
    let b = not_first u t us ts p (λ line column. sym (h line column)) in
    let e = same_first t u ts us a b (h t.line t.column) in
    let rest = same_list ts us (rest_in_order t ts p) (rest_in_order u us q)
    (λ line column. drop_first t u ts us line column e (h line column)) in
    cc

-- ---- the arrangement

-- a token that doesn't lie before the first one is inserted behind it
inserted_behind : (u t : Token) (us : List Token) → before t u ≡ false → AreInOrder (u ∷ us)
    → AreInOrder (u ∷ insert_token t us)
inserted_behind u t [] e h = (e, tt)
inserted_behind u t (v ∷ vs) e h =
    cond_both (before v t) (v ∷ insert_token t vs) (t ∷ v ∷ vs) (λ ts. AreInOrder (u ∷ ts))
    (λ lt. (h.0, inserted_behind v t vs (before_order.one_way v t lt) h.1)) (λ ge. (e, (ge, h.1)))

inserted_in_order : (t : Token) (us : List Token) → AreInOrder us → AreInOrder (insert_token t us)
inserted_in_order t [] h = tt
inserted_in_order t (u ∷ us) h =
    cond_both (before u t) (u ∷ insert_token t us) (t ∷ u ∷ us) AreInOrder
    (λ lt. inserted_behind u t us (before_order.one_way u t lt) h) (λ ge. (ge, h))

arranged_in_order : (ts : List Token) → AreInOrder (arranged ts)
arranged_in_order [] = tt
arranged_in_order (t ∷ ts) = inserted_in_order t (arranged ts) (arranged_in_order ts)

same_inserted : (t : Token) (us : List Token) → AreAtSame (insert_token t us) (t ∷ us)
same_inserted t [] line column = refl
same_inserted t (u ∷ us) line column = one_more t u us line column (same_inserted t us line column)
  where
    one_more : (t u : Token) (us : List Token) (line column : ℕ)
        → filter (is_at line column) (insert_token t us) ≡ filter (is_at line column) (t ∷ us)
        → filter (is_at line column) (insert_token t (u ∷ us)) ≡ filter (is_at line column) (t ∷ u ∷ us)
    one_more t u us line column rest = grind (arith, nat_tests)

same_arranged : (ts : List Token) → AreAtSame (arranged ts) ts
same_arranged [] line column = refl
same_arranged (t ∷ ts) line column = same_inserted t (arranged ts) line column
    ∙ ap (λ us. cond (is_at line column t) (t ∷ us) us) (same_arranged ts line column)

pub is_arranged : (ts : List Token) → IsArranged ts (arranged ts)
is_arranged ts = record { in_order = arranged_in_order ts; same = same_arranged ts }

pub one_arrangement : (old new : List Token) → IsArranged old new → new ≡ arranged old
one_arrangement old new h = same_list new (arranged old) h.in_order (arranged_in_order old)
    (λ line column. h.same line column ∙ sym (same_arranged old line column))

-- a list in order is left as it is
pub arranged-in_order : (ts : List Token) → NeverFalls (map position_of ts) → arranged ts ≡ ts
arranged-in_order ts h = sym (one_arrangement ts ts (record { in_order = h; same = λ line column. refl }))

-- tokens that tie stand at one position
ties_at : (x t : Token) → ties before x t ≡ is_at x.line x.column t
ties_at x t = grind (arith, nat_tests)

-- What a stable sort makes is the arrangement.
pub arranged_is : (ts sorted : List Token) → IsSortedBy before sorted → IsStableBy before ts sorted
    → sorted ≡ arranged ts
arranged_is ts sorted up stable = one_arrangement ts sorted (record {
  in_order = never_falls_below sorted (length sorted) (omega arith)
      (λ j k d e lt. rw e (up k d (omega arith) (omega arith)));
  same = λ line column.
      let x : Token = record { line = line; column = column; original = None } in
      sym (filter_agree (ties before x) (is_at line column) (ties_at x) sorted) ∙ stable x
      ∙ filter_agree (ties before x) (is_at line column) (ties_at x) ts;
})
