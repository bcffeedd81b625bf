-- The mappings text of one token more.
use Rattle.std.proofs.Common.{◌≡◌, ℕ, zero, suc, ◌+◌, ◌-◌, ◌<◌, ◌≤◌, max, Bool, eqb, List, [], ◌∷◌, ◌++◌}
use Rattle.std.proofs.Common.{length, map, filter, replicate, refl, sym, ap, ◌∙◌, arith, append_assoc}
use Rattle.std.proofs.Common.{add-one, inl, inr}
use Rattle.std.specs.List.{join_with_byte, AllByRecursion}
use Rattle.std.proofs.lemmas.Bool.{cases_eq, cond_both, eq-eqb, ne_eqb}
use Rattle.std.proofs.lemmas.List.{append-nil, length_push, map-append, map_push, replicate_more}
use Rattle.std.proofs.lemmas.List.Elements.{filter-append}
use Rattle.smap_mappings.specs.declared.token.Token.{Token}
use Rattle.smap_mappings.specs.Text.{last_or, segments_after, segment_text, line_text, below_count}
use Rattle.smap_mappings.specs.Text.{line_count, mappings_text}
use Rattle.smap_mappings.specs.Writing.{separator}

-- ---- lists that are joined

join-push : (c : ℕ) (ls : List (List ℕ)) (y : List ℕ)
    → 0 < length ls → join_with_byte c (ls ++ y ∷ []) ≡ join_with_byte c ls ++ c ∷ y
join-push c [] y lt = absurd (omega arith)
join-push c (l ∷ []) y lt = refl
join-push c (l ∷ m ∷ ms) y lt = rw (join-push c (m ∷ ms) y (omega arith)) (sym (append_assoc l _ (c ∷ y)))

join-grow : (c : ℕ) (ls : List (List ℕ)) (y z : List ℕ)
    → join_with_byte c (ls ++ (y ++ z) ∷ []) ≡ join_with_byte c (ls ++ y ∷ []) ++ z
join-grow c [] y z = refl
join-grow c (l ∷ []) y z = sym (append_assoc l (c ∷ y) z)
join-grow c (l ∷ m ∷ ms) y z = rw (join-grow c (m ∷ ms) y z) (sym (append_assoc l _ z))

pub last_or-push : {A : Type 0} (d : A) (xs : List A) (x : A) → last_or d (xs ++ x ∷ []) ≡ x
last_or-push d [] x = refl
last_or-push d (y ∷ ys) x = last_or-push y ys x

-- ---- segments and lines

abbrev Segments : Type 0
Segments = List (ℕ × List ℕ)

abbrev on : ℕ → ℕ × List ℕ → Bool
on line s = eqb s.0 line

segments_after-push : (before ts : List Token) (t : Token) → segments_after before (ts ++ t ∷ [])
    ≡ segments_after before ts ++ (t.line, segment_text (before ++ ts) t) ∷ []
segments_after-push before [] t =
    ap (λ (b : List Token). (t.line, segment_text b t) ∷ []) (sym (append-nil before))
segments_after-push before (u ∷ us) t =
    ap (λ (s : Segments). (u.line, segment_text before u) ∷ s) (segments_after-push (before ++ u ∷ []) us t
    ∙ ap (λ (b : List Token). segments_after (before ++ u ∷ []) us ++ (t.line, segment_text b t) ∷ [])
    (append_assoc before (u ∷ []) us))

segments_below : (before ts : List Token) (n : ℕ) → AllByRecursion (λ t. t.line < n) ts
    → AllByRecursion (λ s. s.0 < n) (segments_after before ts)
segments_below before [] n all = tt
segments_below before (t ∷ ts) n all = (all.0, segments_below (before ++ t ∷ []) ts n all.1)

none_on : (segments : Segments) (n line : ℕ) → AllByRecursion (λ s. s.0 < n) segments → n ≤ line
    → filter (on line) segments ≡ []
none_on [] n line all le = refl
none_on (s ∷ ss) n line all le =
    rw (ne_eqb s.0 line (λ e. let h = all.0 in omega arith)) (none_on ss n line all.1 le)

line_text-other : (segments : Segments) (line : ℕ) (x : List ℕ) (other : ℕ)
    → other < line → line_text (segments ++ (line, x) ∷ []) other ≡ line_text segments other
line_text-other segments line x other lt = rw (
  filter-append (on other) segments ((line, x) ∷ []),
  ne_eqb line other (omega arith),
  append-nil (filter (on other) segments),
) refl

abbrev texts_on : Segments → ℕ → List (List ℕ)
texts_on segments line = map (λ s. s.1) (filter (on line) segments)

texts_on-push : (segments : Segments) (line : ℕ) (x : List ℕ)
    → texts_on (segments ++ (line, x) ∷ []) line ≡ texts_on segments line ++ x ∷ []
texts_on-push segments line x =
    rw (filter-append (on line) segments ((line, x) ∷ []), eq-eqb line line refl)
    (map-append (λ (s : ℕ × List ℕ). s.1) (filter (on line) segments) ((line, x) ∷ []))

abbrev lines_below : Segments → ℕ → List (List ℕ)
lines_below segments n = map (line_text segments) (below_count n)

lines_below-suc : (segments : Segments) (n : ℕ)
    → lines_below segments (suc n) ≡ lines_below segments n ++ line_text segments n ∷ []
lines_below-suc segments n = map-append (line_text segments) (below_count n) (n ∷ [])

lines_below-push : (segments : Segments) (line : ℕ) (x : List ℕ) (n : ℕ)
    → n ≤ line → lines_below (segments ++ (line, x) ∷ []) n ≡ lines_below segments n
lines_below-push segments line x zero le = refl
lines_below-push segments line x (suc n) le = rw (
  lines_below-suc (segments ++ (line, x) ∷ []) n,
  lines_below-suc segments n,
  lines_below-push segments line x n (omega arith),
  line_text-other segments line x n (omega arith),
) refl

abbrev joined : Segments → ℕ → List ℕ
joined segments n = join_with_byte 59 (lines_below segments n)

length-lines_below : (segments : Segments) (n : ℕ) → length (lines_below segments n) ≡ n
length-lines_below segments zero = refl
length-lines_below segments (suc n) = omega (
  arith,
  ap length (lines_below-suc segments n),
  length_push (lines_below segments n) (line_text segments n),
  length-lines_below segments n,
)

-- a segment more on the last line
joined-same_line : (segments : Segments) (line : ℕ) (x : List ℕ) → 0 < length (texts_on segments line)
    → joined (segments ++ (line, x) ∷ []) (suc line) ≡ joined segments (suc line) ++ 44 ∷ x
joined-same_line segments line x some = rw (
  lines_below-suc (segments ++ (line, x) ∷ []) line,
  lines_below-suc segments line,
  lines_below-push segments line x line (omega arith),
  texts_on-push segments line x,
  join-push 44 (texts_on segments line) x some,
) (join-grow 59 (lines_below segments line) (line_text segments line) (44 ∷ x))

-- a line after empty ones
after_empty : (segments : Segments) (n m : ℕ) (x : List ℕ) → AllByRecursion (λ s. s.0 < n) segments → n ≤ m
    → join_with_byte 59 (lines_below segments m ++ x ∷ [])
    ≡ joined segments n ++ (replicate (m + 1 - max n 1) 59 ++ x)
after_empty segments n zero x all le = let first : n ≡ 0 = omega arith in rw first refl
after_empty segments n (suc m) x all le =
    join-push 59 (lines_below segments (suc m)) x (omega (arith, length-lines_below segments (suc m)))
    ∙ elim (cases_eq n (suc m)) [
      | inl same ↦ let one : suc m + 1 - max (suc m) 1 ≡ 1 = omega arith in rw (same, one) refl
      | inr less ↦
          let more : suc m + 1 - max n 1 ≡ (m + 1 - max n 1) + 1 = omega arith in
          rw (
            lines_below-suc segments m,
            none_on segments n m all (omega arith),
            after_empty segments n m [] all (omega arith),
            more,
            ← replicate_more {X = ℕ} (m + 1 - max n 1) 59,
          ) (simp (append_assoc, append-nil))
    ]

-- a segment on a further line
joined-new_line : (segments : Segments) (n line : ℕ) (x : List ℕ)
    → AllByRecursion (λ s. s.0 < n) segments → n ≤ line → joined (segments ++ (line, x) ∷ []) (suc line)
    ≡ joined segments n ++ (replicate (line + 1 - max n 1) 59 ++ x)
joined-new_line segments n line x all le = rw (
  lines_below-suc (segments ++ (line, x) ∷ []) line,
  lines_below-push segments line x line (omega arith),
  texts_on-push segments line x,
  none_on segments n line all le,
) (after_empty segments n line x all le)

-- ---- tokens

pub line_count-push : (ts : List Token) (t : Token) → line_count (ts ++ t ∷ []) ≡ t.line + 1
line_count-push ts t =
    rw (map_push (λ (u : Token). u.line + 1) ts t) (last_or-push 0 (map (λ u. u.line + 1) ts) (t.line + 1))

-- the last line has a segment
last_line : (before ts : List Token) (line : ℕ) → line_count ts ≡ line + 1
    → 0 < length (texts_on (segments_after before ts) line)
last_line before [] line e = absurd (omega arith)
last_line before (t ∷ []) line e = rw (eq-eqb t.line line (omega arith)) (omega arith)
last_line before (t ∷ u ∷ us) line e =
    cond_both (eqb t.line line) _ _ (λ (ss : Segments). 0 < length (map (λ s. s.1) ss)) (λ _. omega arith)
    (λ _. last_line (before ++ t ∷ []) (u ∷ us) line e)

-- The text of tokens, and of one more.
pub mappings_text-push : (ts : List Token) (t : Token) → AllByRecursion (λ u. u.line < line_count ts) ts
    → line_count ts ≤ t.line + 1
    → mappings_text (ts ++ t ∷ [])
    ≡ mappings_text ts ++ (separator (line_count ts) t.line ++ segment_text ts t)
unfolding mappings_text
mappings_text-push ts t all le =
    ap (λ (s : Segments). joined s (line_count (ts ++ t ∷ []))) (segments_after-push [] ts t)
    ∙ ap (joined (segments_after [] ts ++ (t.line, segment_text ts t) ∷ []))
    (line_count-push ts t ∙ add-one t.line)
    ∙ elim (cases_eq (line_count ts) (t.line + 1)) [
      | inl same ↦
          joined-same_line (segments_after [] ts) t.line (segment_text ts t) (last_line [] ts t.line same)
          ∙ rw (eq-eqb (line_count ts) (t.line + 1) same, same, add-one t.line) refl
      | inr other ↦ rw (ne_eqb (line_count ts) (t.line + 1) other)
          (joined-new_line (segments_after [] ts) (line_count ts) t.line (segment_text ts t)
          (segments_below [] ts (line_count ts) all) (omega arith))
    ]
