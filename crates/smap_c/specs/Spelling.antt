-- What the call comes to that writes a mappings string of mappings given as numbers.
use Rattle.std.specs.Prelude.{◌≡◌, ℕ, List, Option, Some, None}
use Rattle.std.specs.Global.{Vec}
use Rattle.smap_c_answers.specs.Codes as codes
use Rattle.smap_c_answers.specs.Spelling.{first_wrong, spelled}
use Rattle.smap_c_answers.specs.declared.spelling.MappingNumbers.{MappingNumbers}
use Rattle.smap_c.specs.Bytes.{Writes}

-- the index of the first wrong mapping is reported, if there is one; else the handle has the string
abbrev pub SpellsUnless : Option ℕ → List MappingNumbers → Option (Vec ℕ) → Option (Vec ℕ) → ℕ → ℕ → ℕ
    → Type 0
SpellsUnless (Some i) ms old new before after code = (code ≡ codes.RANGE) × (after ≡ i) × (new ≡ old)
SpellsUnless None ms old new before after code = Writes (spelled ms) old new code × (after ≡ before)

-- The handle has the string of the mappings, or the index of the first wrong one is reported; or memory ran
-- out, and nothing is.
abbrev pub Spells : List MappingNumbers → Option (Vec ℕ) → Option (Vec ℕ) → ℕ → ℕ → ℕ → Type 0
Spells ms old new before after code = SpellsUnless (first_wrong ms) ms old new before after code
