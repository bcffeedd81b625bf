-- Flags of ignored sources, set one by one.
use Rattle.std.proofs.Common.{◌≡◌, ℕ, ◌+◌, ◌<◌, List, [], ◌∷◌, length, take, Bool, true, false, ◌||◌, eqb}
use Rattle.std.proofs.Common.{Some, slice_get, arith}
use Rattle.std.proofs.Math.ListN.{set}
use Rattle.std.proofs.lemmas.Bool.Decides.{nat_tests}
use Rattle.std.proofs.lemmas.Grind.{common_steps}
use Rattle.std.proofs.lemmas.List.Folds.{list_any-append}
use Rattle.std.proofs.lemmas.Option.{gets}
use Rattle.smap_record.specs.Steps.{AreFlags}
use Rattle.smap_record.proofs.ListLemmas.{take_next}

flag_set : (flags : List Bool) (i j : ℕ) (was : Bool) → i < length flags → slice_get flags i ≡ Some was
    → slice_get (set flags j true) i ≡ Some (was || (eqb j i || false))
flag_set flags i j was below is = grind (arith, nat_tests, common_steps, gets)

-- one more is listed
pub flags_more : (n : ℕ) (numbers : List ℕ) (k j : ℕ) (flags : List Bool)
    → length flags ≡ n → slice_get numbers k ≡ Some j → j < n → AreFlags n (take k numbers) flags
    → AreFlags n (take (k + 1) numbers) (set flags j true)
flags_more n numbers k j flags long at within are i below =
    rw (take_next numbers k j at, list_any-append (λ m. eqb m i) (take k numbers) (j ∷ []))
    (flag_set flags i j _ (omega (arith, long, below)) (are i below))
