-- One map for each script, one place at a time.
use Rattle.std.proofs.Common.{◌≡◌, ◌∙◌, ℕ, ◌+◌, Bool, true, false, not, ◌&&◌, ◌||◌, List, [], ◌∷◌, ◌++◌}
use Rattle.std.proofs.Common.{cond, filter, length}
use Rattle.std.proofs.Common.{inl, inr, ap, sym, refl, arith, Bor, Some, None, ◌<◌, ◌≤◌, min, drop}
use Rattle.std.proofs.Common.{slice_get, append-nil, append_assoc, length-append}
use Rattle.std.proofs.lemmas.Option.{none-some, slice_get_cases, slice_get_within}
use Rattle.std.proofs.Math.Bool.{or-false}
use Rattle.std.specs.Str.{bytes_eq}
use Rattle.std.proofs.lemmas.List.{drop_all}
use Rattle.std.proofs.lemmas.List.Elements.{filter_agree}
use Rattle.std.proofs.lemmas.List.Folds.{list_any-append}
use Rattle.std.proofs.lemmas.Slice.Eq.{bytes_eq-Decides}
use Rattle.smap_map_files.specs.Chosen.{beside_flag, holds}
use Rattle.smap_map_files.specs.Settling.{first_of_each, gives_way, is_same_script, kept, that_stay}
use Rattle.smap_map_files.specs.WantedView.{Named}
use Rattle.smap_map_files.proofs.ListLemmas.{beside_flag-push, drop_at, drop_none_more, filter_both}

-- ---- texts that were seen

held_alike : (keys : List (Bor (List ℕ))) (text other : List ℕ) → holds keys text ≡ true
    → bytes_eq other text ≡ true → holds keys other ≡ true
held_alike keys text other held same = let e : other
    ≡ text = (bytes_eq-Decides other text).0 same in rw e held

-- a text more
pub holds_more : (keys : List (Bor (List ℕ))) (text : Bor (List ℕ)) (other : List ℕ)
    → holds (cond (holds keys text.now) keys (keys ++ text ∷ [])) other
    ≡ (holds keys other || bytes_eq other text.now)
holds_more keys text other = by (holds keys text.now) refl
  where
    there : (b : Bool) → bytes_eq other text.now ≡ b → holds keys text.now ≡ true
        → holds keys other ≡ (holds keys other || b)
    there true same held = rw (held_alike keys text.now other held same) refl
    there false same held = sym (or-false (holds keys other))

    by : (b : Bool) → holds keys text.now ≡ b
        → holds (cond b keys (keys ++ text ∷ [])) other ≡ (holds keys other || bytes_eq other text.now)
    by true held = there (bytes_eq other text.now) refl held
    by false held = list_any-append (λ k. bytes_eq other k.now) keys (text ∷ [])
        ∙ ap (λ b. holds keys other || b) (or-false (bytes_eq other text.now))

-- ---- the first of each script, of those that weren't seen

abbrev pub unseen : List (Bor (List ℕ)) → List Named → List Named
unseen keys ns = filter (λ n. not (holds keys n.0.script)) ns

-- one whose script was seen is left out
pub seen_before : (keys : List (Bor (List ℕ))) (n : Named) (ns : List Named) → holds keys n.0.script ≡ true
    → unseen keys (first_of_each (n ∷ ns)) ≡ unseen keys (first_of_each ns)
seen_before keys n ns held =
    rw held (filter_both (λ m. not (holds keys m.0.script)) (λ m. not (is_same_script n m)) (first_of_each ns)
    ∙ filter_agree _ _ (λ m. agrees m (is_same_script n m) refl) (first_of_each ns))
  where
    agrees : (m : Named) (b : Bool) → is_same_script n m ≡ b
        → (not b && not (holds keys m.0.script)) ≡ not (holds keys m.0.script)
    agrees m true same = rw (held_alike keys n.0.script m.0.script held same) refl
    agrees m false same = refl

-- one whose script is new comes first
pub seen_first : (keys new : List (Bor (List ℕ))) (n : Named) (ns : List Named) → holds keys n.0.script
    ≡ false
    → ((other : List ℕ) → holds new other ≡ (holds keys other || bytes_eq other n.0.script))
    → unseen keys (first_of_each (n ∷ ns)) ≡ n ∷ unseen new (first_of_each ns)
seen_first keys new n ns held more =
    rw held (ap (λ ms. n ∷ ms)
    (filter_both (λ m. not (holds keys m.0.script)) (λ m. not (is_same_script n m)) (first_of_each ns)
    ∙ filter_agree _ _ (λ m. agrees m (is_same_script n m) (holds keys m.0.script) (more m.0.script))
    (first_of_each ns)))
  where
    agrees : (m : Named) (b c : Bool) → holds new m.0.script ≡ (c || b)
        → (not b && not c) ≡ not (holds new m.0.script)
    agrees m true true e = rw e refl
    agrees m true false e = rw e refl
    agrees m false true e = rw e refl
    agrees m false false e = rw e refl

-- a text that was seen changes nothing
same_unseen : (keys new : List (Bor (List ℕ))) (text : List ℕ) → holds keys text ≡ true
    → ((other : List ℕ) → holds new other ≡ (holds keys other || bytes_eq other text))
    → (ns : List Named) → unseen new ns ≡ unseen keys ns
same_unseen keys new text held added ns =
    filter_agree _ _ (λ m. ap not (added m.0.script ∙ there m.0.script (bytes_eq m.0.script text) refl)) ns
  where
    there : (other : List ℕ) (b : Bool) → bytes_eq other text ≡ b → (holds keys other || b) ≡ holds keys other
    there other true same = rw (held_alike keys text other held same) refl
    there other false same = or-false (holds keys other)

-- ---- the places that were gone through, and those to come

abbrev staying : List Named → List Named → List Named
staying ns those = filter (λ n. not (gives_way ns n)) those

pub record IsDecidedUpTo (ns : List Named) (i : ℕ) (flags : List Bool) (keys : List (Bor (List ℕ)))
    (again : List ℕ) : Type 0 where
  pub count : length flags ≡ min i (length ns)
  pub kept_is : beside_flag true flags ns ++ unseen keys (first_of_each (staying ns (drop i ns))) ≡ kept ns
  pub stay : length (beside_flag true flags ns) + length again + length (staying ns (drop i ns))
      ≡ length (that_stay ns)

all_unseen : (ns : List Named) → unseen [] ns ≡ ns
all_unseen [] = refl
all_unseen (n ∷ ns) = ap (λ ms. n ∷ ms) (all_unseen ns)

pub none_decided : (ns : List Named) (flags : List Bool) (keys : List (Bor (List ℕ))) (again : List ℕ)
    → flags ≡ [] → keys ≡ [] → again ≡ [] → IsDecidedUpTo ns 0 flags keys again
none_decided ns flags keys again f k a = record {
  count = omega (arith, ap length f);
  kept_is = rw (f, k) (all_unseen (kept ns));
  stay = let e : length (staying ns (drop 0 ns)) ≡ length (that_stay ns) = refl in
      omega (arith, e, ap (λ fs. length (beside_flag true fs ns)) f, ap length a);
}

pub decided_past : (ns : List Named) (i : ℕ) (flags : List Bool) (keys : List (Bor (List ℕ))) (again : List ℕ)
    → length ns ≤ i → slice_get ns i ≡ None → IsDecidedUpTo ns i flags keys again
    → IsDecidedUpTo ns (i + 1) flags keys again
decided_past ns i flags keys again past none h = record {
  count = omega (arith, past, h.count);
  kept_is = rw (drop_none_more ns i none) h.kept_is;
  stay = rw (drop_none_more ns i none) h.stay;
}

-- the next stays, or gives way
next_stays : (ns : List Named) (i : ℕ) (n : Named) → slice_get ns i ≡ Some n → gives_way ns n ≡ false
    → staying ns (drop i ns) ≡ n ∷ staying ns (drop (i + 1) ns)
next_stays ns i n at stays = ap (staying ns) (drop_at ns i n at)
    ∙ ap (λ b. cond (not b) (n ∷ staying ns (drop (i + 1) ns)) (staying ns (drop (i + 1) ns))) stays

next_gives_way : (ns : List Named) (i : ℕ) (n : Named) → slice_get ns i ≡ Some n → gives_way ns n ≡ true
    → staying ns (drop i ns) ≡ staying ns (drop (i + 1) ns)
next_gives_way ns i n at gives = ap (staying ns) (drop_at ns i n at)
    ∙ ap (λ b. cond (not b) (n ∷ staying ns (drop (i + 1) ns)) (staying ns (drop (i + 1) ns))) gives

module _ (ns : List Named) (i : ℕ) (flags more : List Bool) (keys : List (Bor (List ℕ))) (again : List ℕ)
    (n : Named)
    (at : slice_get ns i ≡ Some n) (h : IsDecidedUpTo ns i flags keys again) where
  flag_at : slice_get ns (length flags) ≡ Some n
  flag_at =
      let lt : i < length ns = slice_get_within ns i n at in
      let e : length flags ≡ i = omega (arith, h.count) in
      rw e at

  one_flag_more : (f : Bool) → more ≡ flags ++ f ∷ [] → length more ≡ min (i + 1) (length ns)
  one_flag_more f e =
      let lt : i < length ns = slice_get_within ns i n at in
      omega (arith, ap length e, length-append flags (f ∷ []), h.count)

  not_kept : more ≡ flags ++ false ∷ [] → beside_flag true more ns ≡ beside_flag true flags ns
  not_kept e = ap (λ fs. beside_flag true fs ns) e ∙ beside_flag-push true flags false ns n flag_at
      ∙ append-nil (beside_flag true flags ns)

  pub decided_gone : more ≡ flags ++ false ∷ [] → gives_way ns n ≡ true → IsDecidedUpTo ns
      (i + 1) more keys again
  decided_gone e gives = record {
    count = one_flag_more false e;
    kept_is = rw (not_kept e, ← next_gives_way ns i n at gives) h.kept_is;
    stay = rw (not_kept e, ← next_gives_way ns i n at gives) h.stay;
  }

  pub decided_first : (new : List (Bor (List ℕ))) → more ≡ flags ++ true ∷ [] → gives_way ns n ≡ false
      → holds keys n.0.script ≡ false
      → ((other : List ℕ) → holds new other ≡ (holds keys other || bytes_eq other n.0.script))
      → IsDecidedUpTo ns (i + 1) more new again
  decided_first new e stays held added =
      let rest = staying ns (drop (i + 1) ns) in
      let kept_more : beside_flag true more ns ≡ beside_flag true flags ns ++ n ∷ [] =
      ap (λ fs. beside_flag true fs ns) e ∙ beside_flag-push true flags true ns n flag_at in
      record {
        count = one_flag_more true e;
        kept_is = ap (λ ys. ys ++ unseen new (first_of_each rest)) kept_more
            ∙ append_assoc (beside_flag true flags ns) (n ∷ []) (unseen new (first_of_each rest))
            ∙ ap (λ ys. beside_flag true flags ns ++ ys) (sym (seen_first keys new n rest held added)
            ∙ ap (λ ms. unseen keys (first_of_each ms)) (sym (next_stays ns i n at stays)))
            ∙ h.kept_is;
        stay = omega (
          arith,
          ap length kept_more,
          length-append (beside_flag true flags ns) (n ∷ []),
          ap length (next_stays ns i n at stays),
          h.stay,
        );
      }

  pub decided_again : (new : List (Bor (List ℕ))) (others : List ℕ) → more ≡ flags ++ false ∷ []
      → gives_way ns n ≡ false → holds keys n.0.script ≡ true
      → ((other : List ℕ) → holds new other ≡ (holds keys other || bytes_eq other n.0.script))
      → length others ≡ length again + 1 → IsDecidedUpTo ns (i + 1) more new others
  decided_again new others e stays held added longer =
      let rest = staying ns (drop (i + 1) ns) in
      record {
        count = one_flag_more false e;
        kept_is = ap (λ ys. ys ++ unseen new (first_of_each rest)) (not_kept e)
            ∙ ap (λ ys. beside_flag true flags ns ++ ys)
            (same_unseen keys new n.0.script held added (first_of_each rest) ∙ sym
            (seen_before keys n rest held)
            ∙ ap (λ ms. unseen keys (first_of_each ms)) (sym (next_stays ns i n at stays)))
            ∙ h.kept_is;
        stay = omega (arith, ap length (not_kept e), longer, ap length (next_stays ns i n at stays), h.stay);
      }

pub decided_all : (ns : List Named) (i : ℕ) (flags : List Bool) (keys : List (Bor (List ℕ))) (again : List ℕ)
    → length ns ≤ i → IsDecidedUpTo ns i flags keys again
    → (length flags ≡ length ns) × (beside_flag true flags ns ≡ kept ns)
    × (length (kept ns) + length again ≡ length (that_stay ns))
decided_all ns i flags keys again past h =
    let none : drop i ns ≡ [] = drop_all i ns past in
    let all : beside_flag true flags ns ≡ kept ns =
    sym (append-nil (beside_flag true flags ns))
    ∙ ap (λ ms. beside_flag true flags ns ++ unseen keys (first_of_each (staying ns ms))) (sym none)
    ∙ h.kept_is in (
      omega (arith, past, h.count),
      all,
      omega (
        arith,
        ap length all,
        ap (λ ms. length
            (staying ns ms)) none,
        h.stay,
      ),
    )

pub no_element : {A : Type 0} (xs : List A) (i : ℕ) → slice_get xs i ≡ None → length xs ≤ i
no_element xs i none = elim (slice_get_cases xs i).1 [
  | inl found ↦ absurd (none-some found.0 (sym none ∙ found.2))
  | inr past ↦ past.0
]

pub not_new : (new held : Bool) → new ≡ not held → new ≡ true → held ≡ false
not_new new true e is = cc
not_new new false e is = refl

pub is_old : (new held : Bool) → new ≡ not held → new ≡ false → held ≡ true
is_old new true e is = refl
is_old new false e is = cc
