-- Tokens that end where the lines of a script do.
use Rattle.std.proofs.Common.{◌≡◌, ℕ, ◌<◌, ◌≤◌, false, List, [], ◌∷◌, ◌++◌}
use Rattle.std.proofs.Common.{Option, Some, None, map, drop, length, refl, sym, ◌∙◌, arith}
use Rattle.std.proofs.Common.{append-nil}
use Rattle.std.proofs.lemmas.Bool.{cond_both}
use Rattle.std.proofs.lemmas.Bool.Decides.{nat_tests}
use Rattle.std.proofs.lemmas.List.{drop_all}
use Rattle.std.specs.List.{AllByRecursion, cons_option, slice_get}
use Rattle.smap_mappings.specs.declared.token.Token.{Token}
use Rattle.smap_mappings.specs.Position.{POSITIONS, is_before, position_of, NeverFalls}
use Rattle.smap_mappings.specs.Text.{IsEncodable, IsPlaced}
use Rattle.smap_mappings.specs.Widths.{is_within}
use Rattle.smap_mappings.specs.Ends.{kept, end_behind, ended}

pub all_ended : (widths : List ℕ) (all ts whole : List Token) (i : ℕ) → length ts ≤ i
    → all ++ ended widths (drop i ts) ≡ whole → all ≡ whole
all_ended widths all ts whole i past h = sym (append-nil all) ∙ (rw (drop_all i ts past) at h)

-- ---- the ends of lines

pub has_no_original : (widths : List ℕ) (t m : Token) (o : Option Token) → end_behind widths t o ≡ Some m
    → m.original ≡ None
has_no_original widths t m next e = grind (arith, nat_tests)

behind_kept : (widths : List ℕ) (t m : Token) (next : Option Token) → end_behind widths t next ≡ Some m
    → is_before (position_of m) (position_of (kept widths t)) ≡ false
behind_kept widths t m next e = grind (arith, nat_tests)

before_kept : (widths : List ℕ) (t u m : Token) → is_before (position_of u) (position_of t) ≡ false
    → end_behind widths t (Some u) ≡ Some m → is_before (position_of (kept widths u)) (position_of m) ≡ false
before_kept widths t u m le e = grind (arith, nat_tests)

both_kept : (widths : List ℕ) (t u : Token) → is_before (position_of u) (position_of t) ≡ false
    → is_before (position_of (kept widths u)) (position_of (kept widths t)) ≡ false
both_kept widths t u le = grind (arith, nat_tests)

line_is : (widths : List ℕ) (t m : Token) (next : Option Token) → end_behind widths t next ≡ Some m
    → m.line ≡ t.line
line_is widths t m next e = grind (arith, nat_tests)

column_fits : (widths : List ℕ) (t m : Token) (next : Option Token) → end_behind widths t next ≡ Some m
    → m.column < POSITIONS
column_fits widths t m next e = grind (arith, nat_tests)

-- ---- tokens in order stay in order

-- the second one isn't before the first
abbrev IsAfter : Token → Token → Type 0
IsAfter a b = is_before (position_of b) (position_of a) ≡ false

between : (a : Token) (o : Option Token) (c : Token) (rest : List Token)
    → is_before (position_of c) (position_of a) ≡ false
    → ((m : Token) → o ≡ Some m → IsAfter a m × IsAfter m c)
    → NeverFalls (map position_of (c ∷ rest)) → NeverFalls (map position_of (a ∷ cons_option o (c ∷ rest)))
between a None c rest ca ends h = (ca, h)
between a (Some m) c rest ca ends h = let e = ends m refl in (e.0, (e.1, h))

at_last : (a : Token) (o : Option Token)
    → ((m : Token) → o ≡ Some m → is_before (position_of m) (position_of a) ≡ false)
    → NeverFalls (map position_of (a ∷ cons_option o []))
at_last a None ends = tt
at_last a (Some m) ends = (ends m refl, tt)

stay_in_order : (widths : List ℕ) (ts : List Token) → NeverFalls (map position_of ts)
    → NeverFalls (map position_of (ended widths ts))
stay_in_order widths [] h = tt
stay_in_order widths (t ∷ []) h =
    at_last (kept widths t) (end_behind widths t None) (λ m e. behind_kept widths t m None e)
stay_in_order widths (t ∷ u ∷ us) h =
    between (kept widths t) (end_behind widths t (Some u)) (kept widths u)
    (cons_option (end_behind widths u (slice_get us 0)) (ended widths us)) (both_kept widths t u h.0)
    (λ m e. (behind_kept widths t m (Some u) e, before_kept widths t u m h.0 e))
    (stay_in_order widths (u ∷ us) h.1)

-- ---- what holds of each token

one_more : (P : Token → Type 0) (o : Option Token) (ts : List Token) → ((m : Token) → o ≡ Some m → P m)
    → AllByRecursion P ts → AllByRecursion P (cons_option o ts)
one_more P None ts one all = all
one_more P (Some m) ts one all = (one m refl, all)

pub all_of_ended : (P : Token → Type 0) (widths : List ℕ) (ts : List Token)
    → ((t : Token) → P t → P (kept widths t))
    → ((t m : Token) (next : Option Token) → end_behind widths t next ≡ Some m → P t → P m)
    → AllByRecursion P ts → AllByRecursion P (ended widths ts)
all_of_ended P widths [] keeps ends all = tt
all_of_ended P widths (t ∷ ts) keeps ends all = (
  keeps t all.0,
  one_more P (end_behind widths t (slice_get ts 0)) (ended widths ts)
      (λ m e. ends t m (slice_get ts 0) e all.0) (all_of_ended P widths ts keeps ends all.1),
)

pub keeps_by : (P : Token → Type 0) (widths : List ℕ) (t : Token)
    → P t → P (record t { original = None }) → P (kept widths t)
keeps_by P widths t p q =
    cond_both (is_within widths t.line t.column) t (record t { original = None }) P (λ e. p) (λ e. q)

placed_end : (widths : List ℕ) (t m : Token) (next : Option Token) → end_behind widths t next ≡ Some m
    → IsPlaced t → IsPlaced m
placed_end widths t m next e placed = record {
  line = rw (line_is widths t m next e) placed.line;
  column = column_fits widths t m next e;
  original = rw (has_no_original widths t m next e) tt;
}

pub ended_encodable : (widths : List ℕ) (ts : List Token) → IsEncodable ts → IsEncodable (ended widths ts)
ended_encodable widths ts is = (
  stay_in_order widths ts is.0,
  all_of_ended IsPlaced widths ts
      (λ t placed. keeps_by IsPlaced widths t placed
      (record { line = placed.line; column = placed.column; original = tt }))
      (placed_end widths) is.1,
)
