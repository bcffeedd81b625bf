-- What mappings cover, one after the other.
use Rattle.std.proofs.Common.{◌≡◌, ◌≤◌, length, ℕ, ◌+◌, List, drop, slice_get, Some, min, refl, arith}
use Rattle.std.proofs.Math.ListN.{drop_of_length-le}
use Rattle.smap_mappings.specs.declared.token.Token.{Token}
use Rattle.smap_lint_rules.specs.Share.{covered, mapped_units}
use Rattle.smap_lint_rules.proofs.WalkLemmas.{drop_at, slice_get_drop}

pub mapped_next : (widths : List ℕ) (ts : List Token) (i : ℕ) (t : Token) → slice_get ts i ≡ Some t
    → mapped_units widths (drop i ts)
    ≡ covered widths t (slice_get ts (i + 1)) + mapped_units widths (drop (i + 1) ts)
mapped_next widths ts i t e = rw (drop_at ts i t e, slice_get_drop ts (i + 1)) refl

-- one more mapping, in a sum that stays below a bound
pub saturated : (count here rest all m : ℕ) (next : ℕ) → next ≡ min (count + here) m
    → min (count + (here + rest)) m ≡ min all m → min (next + rest) m ≡ min all m
saturated count here rest all m next e same = rw e (grind arith)

pub at_last : (widths : List ℕ) (ts : List Token) (i count m : ℕ) → length ts ≤ i → count ≤ m
    → min (count + mapped_units widths (drop i ts)) m ≡ min (mapped_units widths ts) m
    → count ≡ min (mapped_units widths ts) m
at_last widths ts i count m h most e = done (rw (drop_of_length-le ts h) at e)
  where
    done : min (count + 0) m ≡ min (mapped_units widths ts) m → count ≡ min (mapped_units widths ts) m
    done f = grind (arith, f)
