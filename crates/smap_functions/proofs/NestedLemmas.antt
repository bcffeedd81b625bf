-- a relation of each two elements of a list, and the functions that are open at a place
use Rattle.std.proofs.Common.{◌≡◌, ◌++◌, ◌<◌, ◌≤◌, ◌⊎◌, ℕ, IfSome, IfNone, List, [], ◌∷◌, Option, None}
use Rattle.std.proofs.Common.{Some, refl, inl, inr, subst, arith, length, take, get_or, ◌+◌}
use Rattle.std.specs.List.{All, Contains}
use Rattle.std.proofs.lemmas.List.{take_more}
use Rattle.std.specs.Option.{option_to_list}
use Rattle.std.proofs.lemmas.List.Elements.{All-nil, All-cons, All-head, All-tail, All-push, All-pop}
use Rattle.std.proofs.lemmas.List.Elements.{All-weaker, All-contains, Contains-push, Contains-push_cases}
use Rattle.std.proofs.lemmas.List.Elements.{Contains-append_left}
use Rattle.smap_functions.specs.declared.found.Function.{Function}
use Rattle.smap_functions.specs.Nested.{Pairwise}
use Rattle.smap_functions.specs.Functions.{AreNested, Follows}

pub Pairwise-push : {X : Type 0} (R : X → X → Type 0) (xs : List X) (y : X)
    → Pairwise R xs → All (λ x. R x y) xs → Pairwise R (xs ++ y ∷ [])
Pairwise-push R [] y p a = (All-nil (R y), tt)
Pairwise-push R (x ∷ xs) y p a = (
  All-push (R x) xs y p.0 (All-head (λ u. R u y) x xs a),
  Pairwise-push R xs y p.1 (All-tail (λ u. R u y) x xs a),
)

pub Pairwise-pop : {X : Type 0} (R : X → X → Type 0) (xs : List X) (y : X)
    → Pairwise R (xs ++ y ∷ []) → Pairwise R xs × All (λ x. R x y) xs
Pairwise-pop R [] y p = (tt, All-nil (λ u. R u y))
Pairwise-pop R (x ∷ xs) y p =
    let rest = Pairwise-pop R xs y p.1 in
    let parts = All-pop (R x) (xs ++ y ∷ []) xs (Some y) refl p.0 in
    ((parts.0, rest.0), All-cons (λ u. R u y) x xs parts.1 rest.1)

-- an end up to the place is taken off
pub kept_behind : (place end : ℕ) (all ends rest : List ℕ) → ends ≡ rest ++ end ∷ [] → end ≤ place
    → All (λ e. (e ≤ place) ⊎ Contains ends e) all → All (λ e. (e ≤ place) ⊎ Contains rest e) all
kept_behind place end all ends rest is le kept =
    All-weaker (λ e. (e ≤ place) ⊎ Contains ends e) (λ e. (e ≤ place) ⊎ Contains rest e) one all kept
  where
    one : (e : ℕ) → (e ≤ place) ⊎ Contains ends e → (e ≤ place) ⊎ Contains rest e
    one e h =
        elim h [
          | inl l ↦ inl l
          | inr c ↦ elim (Contains-push_cases rest end e (subst (λ u. Contains u e) is c)) [
            | inl r ↦ inr r
            | inr same ↦ inl (subst (λ u. u ≤ place) same le)
          ]
        ]

-- the end of a function within the innermost open one is the least
pub least : (end : ℕ) (ends : List ℕ) (r : Option ℕ) → Pairwise (λ d e. e ≤ d) (ends ++ option_to_list r)
    → IfNone r (ends ≡ []) → IfSome r (λ e. end ≤ e) → All (λ e. end ≤ e) (ends ++ option_to_list r)
least end ends None p none some = rw none (All-nil (λ e. end ≤ e))
least end ends (Some e) p none some =
    let parts = Pairwise-pop (λ d e. e ≤ d) ends e p in
    All-push (λ d. end ≤ d) ends e
    (All-weaker (λ d. e ≤ d) (λ d. end ≤ d) (λ d h. omega arith) ends parts.1) some

-- where an earlier function is, of which the end is behind its start's place or open
pub behind : (start : ℕ) (g : Function) (ends held : List ℕ) → start ≤ g.start
    → All (λ e. (e ≤ g.start) ⊎ Contains held e) ends → All (λ e. g.end ≤ e) held
    → (f : Function) → (f.start ≤ start) × ((f.end ≤ start) ⊎ Contains ends f.end)
    → Follows f g × ((f.end ≤ g.start) ⊎ Contains (held ++ g.end ∷ []) f.end)
behind start g ends held le kept low f h =
    let begins : f.start ≤ g.start = omega (arith, h.0) in
    elim h.1 [
      | inl l ↦ let past : f.end ≤ g.start = omega arith in ((begins, inl past), inl past)
      | inr c ↦ elim (All-contains (λ e. (e ≤ g.start) ⊎ Contains held e) ends f.end kept c) [
        | inl past ↦ ((begins, inl past), inl past)
        | inr o ↦ (
          (begins, inr (All-contains (λ e. g.end ≤ e) held f.end low o)),
          inr (Contains-append_left held (g.end ∷ []) f.end o),
        )
      ]
    ]

-- each function done begins up to a place, and ends up to it or is open
abbrev pub AreOpened : ℕ → List ℕ → List Function → Type 0
AreOpened start ends done = All (λ f. (f.start ≤ start) × ((f.end ≤ start) ⊎ Contains ends f.end)) done

-- one more function
pub nested_step : (start : ℕ) (fs : List Function) (i : ℕ) (d g : Function)
    (ends left now : List ℕ) (r : Option ℕ)
    → i < length fs → get_or fs i d ≡ g → now ≡ (left ++ option_to_list r) ++ g.end ∷ [] → start ≤ g.start
    → Pairwise (λ d e. e ≤ d) (left ++ option_to_list r)
    → All (λ e. (e ≤ g.start) ⊎ Contains (left ++ option_to_list r) e) ends
    → IfNone r (left ≡ []) → IfSome r (λ e. g.end ≤ e)
    → AreNested (take i fs) → AreOpened start ends (take i fs)
    → AreNested (take (i + 1) fs) × Pairwise (λ d e. e ≤ d) now × AreOpened g.start now (take (i + 1) fs)
nested_step start fs i d g ends left now r in' at is le falling kept none some nested opened =
    let held = left ++ option_to_list r in
    let low = least g.end left r falling none some in
    let each = behind start g ends held le kept low in
    let more : take (i + 1) fs ≡ take i fs ++ g ∷ []
    = subst (λ u. take (i + 1) fs ≡ take i fs ++ u ∷ []) at (take_more fs i d in') in
    let same : g.start ≤ g.start = omega arith in
    rw (more, is) (
      Pairwise-push Follows (take i fs) g nested
          (All-weaker (λ f. (f.start ≤ start) × ((f.end ≤ start) ⊎ Contains ends f.end)) (λ f. Follows f g)
          (λ f h. (each f h).0) (take i fs) opened),
      Pairwise-push (λ d e. e ≤ d) held g.end falling low,
      All-push (λ f. (f.start ≤ g.start) × ((f.end ≤ g.start) ⊎ Contains (held ++ g.end ∷ []) f.end))
          (take i fs) g
          (All-weaker (λ f. (f.start ≤ start) × ((f.end ≤ start) ⊎ Contains ends f.end))
          (λ f. (f.start ≤ g.start) × ((f.end ≤ g.start) ⊎ Contains (held ++ g.end ∷ []) f.end))
          (λ f h. ((each f h).0.0, (each f h).1)) (take i fs) opened)
          (same, inr (Contains-push held g.end)),
    )
