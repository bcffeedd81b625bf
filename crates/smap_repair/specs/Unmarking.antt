-- A text that begins with a byte order mark.
use Rattle.std.specs.Prelude.{◌≡◌, ℕ, true, Bool, bytes_eq, length, List, [], drop, take, string_bytes, IsErr}
use Rattle.url.specs.Parts.{Parts}
use Rattle.smap_record.specs.Record.{Allowed}
use Rattle.smap_record.specs.UrlBytes.{reading_within}
use Rattle.smap_repair.specs.Listed.{mark}
use Rattle.smap_repair.specs.Repairing.{IsRead}
use Rattle.smap_repair.specs.declared.repair.Change.TheVariants as change
use Rattle.smap_repair.specs.declared.repair.Repair.{Repair}
use Rattle.smap_repair.specs.declared.repairing.Repaired.{Repaired}
use Rattle.smap_repair.specs.declared.repairing.Repaired.TheVariants as answer

abbrev pub is_marked : List ℕ → Bool
is_marked text = bytes_eq (take 3 text) mark

-- This repair removes the mark. Only private contracts cite this.
pub record IsRemoval (r : Repair) : Type 0 where
  pub change : r.change ≡ change.ByteOrderMark
  pub start : r.start ≡ 0
  pub before : string_bytes r.before ≡ mark
  pub after : string_bytes r.after ≡ []

-- What is behind the mark is left, by one repair.
abbrev pub IsUnmarked : List ℕ → List ℕ → List Repair → Type 0
IsUnmarked text new repairs = (new ≡ drop 3 text) × (length repairs ≡ 1)

-- The mark alone keeps this text from being read.
abbrev pub IsMarkedOnly : Parts → Allowed → ℕ → List ℕ → Type 0
IsMarkedOnly base limits most text = IsErr (reading_within base limits most text)
    × ((is_marked text ≡ true) × IsRead base limits most (drop 3 text))

-- what is answered then
abbrev pub LosesMark : List ℕ → Repaired → Type 0
LosesMark text (answer.Mended new repairs) = IsUnmarked text new.items repairs.items
LosesMark text a = ⊥
