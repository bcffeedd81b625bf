-- What is most alike, once one more path is among them.
use Rattle.std.proofs.Common.{◌≡◌, ◌∙◌, ◌⊎◌, ⊎_elim, ℕ, ◌+◌, ◌<◌, ◌≤◌, true, false, List, []}
use Rattle.std.proofs.Common.{length, get_or, ap, sym, subst, arith}
use Rattle.std.proofs.lemmas.Bool.Decides.{nat_tests}
use Rattle.smap_link.specs.Likeness.{IsLike, IsMostAlikeFrom, NoneMore, is_more}
use Rattle.smap_link.specs.Tails.{IsAgreement, left_over}
use Rattle.smap_link.specs.declared.likeness.Likeness.{Likeness}
use Rattle.smap_link.specs.declared.likeness.Likeness.TheVariants.{Unlike, Like, Unclear}
use Rattle.smap_link.specs.declared.tails.Agreement.{Agreement}

-- ---- the order

not_itself : (a : Agreement) → is_more a a ≡ false
not_itself a = grind (arith, nat_tests)

not_both : (a b : Agreement) → is_more a b ≡ true → is_more b a ≡ false
not_both a b more = grind (arith, nat_tests)

more_than_these : (a b c : Agreement) → is_more c a ≡ false → is_more b a ≡ true → is_more b c ≡ true
more_than_these a b c none more = grind (arith, nat_tests)

-- two of which none is more are the same
same_size : (a b : Agreement) → is_more a b ≡ false → is_more b a ≡ false → a.size ≡ b.size
same_size a b one other = grind (arith, nat_tests)

same_left : (a b : Agreement) → is_more a b ≡ false → is_more b a ≡ false → a.left ≡ b.left
same_left a b one other = grind (arith, nat_tests)

nothing_more : (a b : Agreement) → a.size ≡ 0 → 0 < b.size → is_more a b ≡ true → ⊥
nothing_more a b none some more = grind (arith, nat_tests)

same_agreement : (a b : Agreement) → a.size ≡ b.size → a.left ≡ b.left → a ≡ b
same_agreement a b size left =
    let made : ℕ → ℕ → Agreement = λ s l. record { size = s; left = l } in
    ap (λ s. made s a.left) size ∙ ap (λ l. made b.size l) left

-- two paths agree in one way, if they do at all
once : (path name : List ℕ) (a b : Agreement) → 0 < b.size → IsAgreement path name a → IsAgreement path name b
    → a ≡ b
once path name a b some own other =
    let no_less = own.tail.longest b.size (other.tail.common some) in
    let no_more : a.size ≤ b.size =
    other.tail.longest a.size (own.tail.common (omega (arith, some, no_less))) in
    let size : a.size ≡ b.size = omega arith in
    same_agreement a b size (own.left ∙ ap (left_over name) size ∙ sym other.left)

module _ (path : List ℕ) (names : List (List ℕ)) where
  none_more : (from : ℕ) (a : Agreement) (found : Likeness) → IsMostAlikeFrom path names from a found
      → NoneMore path names from a
  none_more from a Unlike is = λ k b low lt like. absurd (is.1 k b low lt like)
  none_more from a (Like i) is = λ k b low lt like.
      let cases : (k ≡ i) ⊎ ¬ (k ≡ i) = grind arith in
      ⊎_elim
      (λ here.
      let like_i = subst (λ (n : ℕ). IsLike path names n b) here like in
      let same = once path (get_or names i []) a b like_i.0 is.2.1 like_i.1 in
      subst (λ (x : Agreement). is_more x a ≡ false) same (not_itself a))
      (λ other. not_both a b (is.3 k b low lt like other)) cases
  none_more from a (Unclear i j) is = is.5

  module _ (i : ℕ) (within : i < length names) (own : Agreement)
      (is : IsAgreement path (get_or names i []) own) where
    -- what holds of this path and of those behind it
    each : (P : Agreement → Type 0) → (0 < own.size → P own) → (k : ℕ) (b : Agreement) → i ≤ k
        → IsLike path names k b → (i + 1 ≤ k → P b) → P b
    each P here k b low like later =
        let cases : (k ≡ i) ⊎ (i + 1 ≤ k) = grind arith in
        ⊎_elim
        (λ at.
        let like_i = subst (λ (n : ℕ). IsLike path names n b) at like in
        let same = once path (get_or names i []) own b like_i.0 is like_i.1 in
        subst P same (here (subst (λ (x : Agreement). 0 < x.size) (sym same) like_i.0))) later cases

    pub kept : (a : Agreement) (found : Likeness) → (0 < own.size → is_more a own ≡ true)
        → IsMostAlikeFrom path names (i + 1) a found → IsMostAlikeFrom path names i a found
    kept a Unlike less from = (
      from.0,
      λ k b low lt like. each (λ _. ⊥) (λ some. nothing_more a own from.0 some (less some)) k b low like
          (λ behind. from.1 k b behind lt like),
    )
    kept a (Like j) less from = (
      omega (arith, from.0),
      from.1,
      from.2,
      λ k b low lt like other. each (λ x. is_more a x ≡ true) less k b low like
          (λ behind. from.3 k b behind lt like other),
    )
    kept a (Unclear j l) less from = (
      omega (arith, from.0),
      from.1,
      from.2,
      from.3,
      from.4,
      λ k b low lt like. each (λ x. is_more x a ≡ false) (λ some. not_both a own (less some)) k b low like
          (λ behind. from.5 k b behind lt like),
    )

    pub taken : (a : Agreement) (found : Likeness) → 0 < own.size → is_more own a ≡ true
        → IsMostAlikeFrom path names (i + 1) a found → IsMostAlikeFrom path names i own (Like i)
    taken a found some more from = (
      omega arith,
      within,
      (some, is),
      λ k b low lt like other.
          more_than_these a own b (none_more (i + 1) a found from k b (omega arith) lt like) more,
    )

    -- another agrees equally
    pub tied : (a : Agreement) (j : ℕ) (found : Likeness) → 0 < own.size → is_more own a ≡ false
        → is_more a own ≡ false → (found ≡ Like j) ⊎ ((l : ℕ) × (found ≡ Unclear j l))
        → IsMostAlikeFrom path names (i + 1) a found → IsMostAlikeFrom path names i own (Unclear i j)
    tied a j found some no_more no_less which from =
        let same = same_agreement a own (same_size a own no_less no_more) (same_left a own no_less no_more) in
        let first : (i + 1 ≤ j) × (j < length names) × IsLike path names j a =
        ⊎_elim
        (λ one. let was = subst (IsMostAlikeFrom path names (i + 1) a) one from in (was.0, was.1, was.2))
        (λ two.
        let was = subst (IsMostAlikeFrom path names (i + 1) a) two.1 from in
        (was.0, omega (arith, was.1, was.2), was.3)) which in (
          omega arith,
          omega (arith, first.0),
          first.1,
          (some, is),
          subst (IsLike path names j) same first.2,
          subst (NoneMore path names i) same (λ k b at lt other.
              each (λ x. is_more x a ≡ false) (λ _. no_more) k b at other
              (λ behind. none_more (i + 1) a found from k b behind lt other)),
        )
