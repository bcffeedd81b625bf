-- Tokens after others, in order.
use Rattle.std.proofs.Common.{◌≡◌, ℕ, zero, suc, ◌+◌, List, [], ◌∷◌, ◌++◌, length, map, take, drop, Some}
use Rattle.std.proofs.Common.{slice_get, get_or, Option, None, ap, ◌∙◌, sym, refl, Bool, true, false}
use Rattle.std.proofs.Common.{◌||◌, arith}
use Rattle.std.proofs.lemmas.Bool.Decides.{nat_tests}
use Rattle.std.specs.List.{AllByRecursion}
use Rattle.std.proofs.Math.ListN.{set}
use Rattle.std.proofs.Math.Bool.{or-false}
use Rattle.std.proofs.lemmas.Bool.{or_parts}
use Rattle.std.proofs.lemmas.List.Edits.{map_over_more}
use Rattle.std.proofs.lemmas.Option.{get_or_from_slice_get, slice_get_within}
use Rattle.smap_mappings.specs.declared.token.Token.{Token}
use Rattle.smap_mappings.specs.declared.position.Position.{Position}
use Rattle.smap_mappings.specs.Position.{is_before, position_of, NeverFalls}
use Rattle.std.specs.Prelude.{option_map}
use Rattle.smap_mappings.specs.declared.token.Original.{Original}
use Rattle.smap_record.specs.Flat.{shifted, shifted_original}
use Rattle.smap_record.specs.Building.{any_after}

-- ---- a list whose elements are changed in place, one by one

-- the first i are changed
abbrev pub changed : {A : Type 0} → (A → A) → ℕ → List A → List A
changed f i xs = map f (take i xs) ++ drop i xs

-- the next is as it was
pub changed_at : {A : Type 0} (f : A → A) (xs : List A) (i : ℕ)
    → slice_get (changed f i xs) i ≡ slice_get xs i
changed_at f [] zero = refl
changed_at f [] (suc i) = refl
changed_at f (x ∷ xs) zero = refl
changed_at f (x ∷ xs) (suc i) = changed_at f xs i

-- one more is changed
pub change_next : {A : Type 0} (f : A → A) (xs : List A) (i : ℕ) (x : A)
    → slice_get xs i ≡ Some x → set (changed f i xs) i (f x) ≡ changed f (i + 1) xs
change_next f xs i x at = map_over_more f xs (changed f i xs) i x (slice_get_within xs i x at) refl
    (sym (get_or_from_slice_get (changed f i xs) i x x (changed_at f xs i ∙ at)))

-- what is after nothing keeps its indices
originals_kept : (o : Option Original) → option_map (shifted_original 0 0) o ≡ o
originals_kept None = refl
originals_kept (Some o) = (λ i. Some (record o { source = source i; name = names o.name i }))
  where
    source : 0 + o.source ≡ o.source
    source = omega arith

    names : (n : Option ℕ) → option_map (λ n. 0 + n) n ≡ n
    names n = grind arith

pub tokens_kept : (ts : List Token) → map (shifted 0 0) ts ≡ ts
tokens_kept [] = refl
tokens_kept (t ∷ ts) = (λ i. record t { original = originals_kept t.original i } ∷ tokens_kept ts i)

-- ---- positions

-- What doesn't lie after a position doesn't lie after what doesn't lie before it.
pub in_turn : (o p q : Position) → is_before o p ≡ false → is_before q o ≡ false → is_before q p ≡ false
in_turn o p q one other = grind (arith, nat_tests)

-- Positions in order up to one, and after them positions in order from there on, are in order.
pub join_NeverFalls : (o : Position) (ps qs : List Position) → NeverFalls ps → NeverFalls qs
    → AllByRecursion (λ p. is_before o p ≡ false) ps → AllByRecursion (λ q. is_before q o ≡ false) qs
    → NeverFalls (ps ++ qs)
join_NeverFalls o [] qs one other up_to from = other
join_NeverFalls o (p ∷ []) [] one other up_to from = tt
join_NeverFalls o (p ∷ []) (q ∷ qs) one other up_to from = (in_turn o p q up_to.0 from.0, other)
join_NeverFalls o (p ∷ r ∷ ps) qs one other up_to from =
    (one.0, join_NeverFalls o (r ∷ ps) qs one.1 other up_to.1 from)

-- ---- whether some token lies after a position

pub none_after : (o : Position) (ts : List Token) → any_after o ts ≡ false
    → AllByRecursion (λ p. is_before o p ≡ false) (map position_of ts)
none_after o [] e = tt
none_after o (t ∷ ts) e = let both = or_parts (is_before o (position_of t)) (any_after o ts) e in
    (both.0, none_after o ts both.1)

-- the last position of a token and those after it
abbrev last_of : Token → List Token → Position
last_of t [] = position_of t
last_of t (u ∷ us) = last_of u us

after_from : (o p q : Position) → is_before q p ≡ false → is_before o p ≡ true → is_before o q ≡ true
after_from o p q in_order after = grind (arith, nat_tests)

-- Where tokens lie in order, the last one tells.
last_tells_of : (o : Position) (t : Token) (ts : List Token) → NeverFalls (map position_of (t ∷ ts))
    → any_after o (t ∷ ts) ≡ is_before o (last_of t ts)
last_tells_of o t [] order = or-false (is_before o (position_of t))
last_tells_of o t (u ∷ us) order =
    absorbs _ _ _ _ (after_from o (position_of t) (position_of u) order.0) (last_tells_of o u us order.1)
  where
    absorbs : (b c d e : Bool) → (b ≡ true → c ≡ true) → (c || d) ≡ e → (b || (c || d)) ≡ e
    absorbs true c d e more same = rw (more refl) at same
    absorbs false c d e more same = same

last_at : (t : Token) (ts : List Token) (d : Token)
    → position_of (get_or (t ∷ ts) (length ts) d) ≡ last_of t ts
last_at t [] d = refl
last_at t (u ∷ us) d = last_at u us d

-- the token at the last place tells
pub last_tells : (o : Position) (ts : List Token) (n : ℕ) (d : Token) → length ts ≡ n + 1
    → NeverFalls (map position_of ts) → any_after o ts ≡ is_before o (position_of (get_or ts n d))
last_tells o [] n d long order = absurd (omega (arith, long))
last_tells o (t ∷ ts) n d long order =
    let last : n ≡ length ts = omega (arith, long) in
    last_tells_of o t ts order ∙ ap (is_before o) (sym (last_at t ts d))
    ∙ ap (λ k. is_before o (position_of (get_or (t ∷ ts) k d))) (sym last)
