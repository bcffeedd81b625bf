-- Marks of the names that mappings have.
use Rattle.std.proofs.Common.{◌≡◌, ℕ, ◌+◌, ◌<◌, ◌≤◌, ◌||◌, Bool, true, false, not, cond, List, [], ◌∷◌}
use Rattle.std.proofs.Common.{length, take, get_or, filter, slice_get, Option, None, Some, refl, arith}
use Rattle.std.proofs.Common.{add-zero, suc, ap, ◌∙◌, replicate, length-set, get_or-set_same}
use Rattle.std.proofs.Common.{get_or-set_other}
use Rattle.std.proofs.lemmas.Bool.Decides.{nat_tests}
use Rattle.std.proofs.lemmas.List.{take_all, get_or-replicate, length-replicate}
use Rattle.std.specs.List.{list_any, range_with_len}
use Rattle.std.proofs.lemmas.List.Folds.{list_any_more}
use Rattle.std.proofs.lemmas.Option.{get_or_from_slice_get, slice_get_within}
use Rattle.smap_mappings.specs.declared.token.Token.{Token}
use Rattle.smap_lint_rules.specs.Listed.{name_of, is_name, has_name, unused, marked}

-- each name is marked that a mapping has
pub record AreMarks (marks : List Bool) (tokens : List Token) : Type 0 where
  pub marked : (k : ℕ) → k < length marks → get_or marks k false ≡ list_any (has_name k) tokens

pub length-marked : (marks : List Bool) (name : Option ℕ) → length (marked marks name) ≡ length marks
length-marked marks None = refl
length-marked marks (Some n) = grind (arith, nat_tests, length-set marks n true)

marked_at : (marks : List Bool) (name : Option ℕ) (k : ℕ) → k < length marks
    → get_or (marked marks name) k false ≡ (get_or marks k false || is_name name k)
marked_at marks None k h = grind arith
marked_at marks (Some n) k h =
    grind (arith, nat_tests, get_or-set_same marks n true false, get_or-set_other marks n k true false)

any_next : (ts : List Token) (i k : ℕ) (t : Token) → slice_get ts i ≡ Some t
    → list_any (has_name k) (take (i + 1) ts) ≡ (list_any (has_name k) (take i ts) || has_name k t)
any_next ts i k t e =
    rw (list_any_more (has_name k) ts i t (slice_get_within ts i t e), get_or_from_slice_get ts i t t e) refl

pub next_marks : (marks : List Bool) (ts : List Token) (i : ℕ) (t : Token) → slice_get ts i ≡ Some t
    → AreMarks marks (take i ts) → AreMarks (marked marks (name_of t)) (take (i + 1) ts)
next_marks marks ts i t e are = record {
  marked = λ k h.
      let within : k < length marks = rw (length-marked marks (name_of t)) at h in
      rw (marked_at marks (name_of t) k within, any_next ts i k t e, are.marked k within) refl;
}

head_counts : (m n : Bool) (k : ℕ) (ms : List Bool) (ns : List ℕ) → m ≡ n → length (filter not ms) ≡ length ns
    → length (cond (not m) (m ∷ filter not ms) (filter not ms)) ≡ length (cond (not n) (k ∷ ns) ns)
head_counts m true k ms ns e same = rw e same
head_counts m false k ms ns e same = rw (e, same) refl

count_from : (marks : List Bool) (f : ℕ → Bool) (a : ℕ)
    → ((k : ℕ) → k < length marks → get_or marks k false ≡ f (a + k))
    → length (filter not marks) ≡ length (filter (λ k. not (f k)) (range_with_len a (length marks)))
count_from [] f a same = refl
count_from (m ∷ ms) f a same = head_counts m (f a) a ms
    (filter (λ k. not (f k)) (range_with_len (a + 1) (length ms)))
    (same 0 (omega arith) ∙ ap f (add-zero a))
    (count_from ms f (a + 1) (λ k h. same (suc k) (omega arith) ∙ ap f (omega arith)))

pub all_marks : (marks : List Bool) (ts : List Token) (count : ℕ) → length marks ≡ count → AreMarks marks ts
    → length (filter not marks) ≡ length (unused count ts)
all_marks marks ts count long are = rw (← long) (count_from marks (λ k. list_any (has_name k) ts) 0
    (λ k h. are.marked k h ∙ ap (λ n. list_any (has_name n) ts) (omega arith)))

pub no_marks : (count : ℕ) → AreMarks (replicate count false) []
no_marks count =
    record { marked = λ k h. get_or-replicate count k false false (rw (length-replicate count false) at h) }

pub all_at_last : (marks : List Bool) (ts : List Token) (count i : ℕ) → length ts ≤ i → length marks ≡ count
    → AreMarks marks (take i ts) → length (filter not marks) ≡ length (unused count ts)
all_at_last marks ts count i h long are = all_marks marks ts count long (rw (take_all i ts h) at are)
