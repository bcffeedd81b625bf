-- Canonical bytes give every trace the same translation.
use Rattle.std.specs.Prelude.{◌≡◌, ◌⊎◌, ℕ, Bool, List, [], ◌∷◌}
use Rattle.smap_record.specs.Record.{Parts, Record, Allowed}
use Rattle.smap_record.specs.Fitting.{Fits}
use Rattle.smap_canon.specs.Canonical.{canonical_map, canonical_text_in}
use Rattle.smap_canon.specs.Laws.{AreLimits, ReadAs}
use Rattle.smap_canon.specs.Layout.{Form, spelling_in, layout, ReadsBack}
use Rattle.smap_trace.specs.Translation.{AreDistinct, Script, fate_by, translation_by}
use Rattle.smap_trace.specs.declared.match_mode.MatchMode.{MatchMode}

-- The second record is read from the canonical bytes of the first in a form, under a base and limits that the
-- first fits.
pub record IsReadFrom (r s : Record) : Type 0 where
  pub form : Form
  pub base : Parts
  pub limits : Allowed
  pub are_limits : AreLimits limits
  pub fits : Fits base limits r
  pub reads_back : ReadsBack (layout (spelling_in form base) (canonical_map r))
  pub read : ReadAs base limits (canonical_text_in form base r) s

-- The records are equal, or one is read from the canonical bytes of the other.
abbrev pub StandFor : Record → Record → Type 0
StandFor r s = (r ≡ s) ⊎ (IsReadFrom r s ⊎ IsReadFrom s r)

-- The scripts agree one by one: their URLs are equal, and their records stand for one another.
abbrev pub Agree : List Script → List Script → Type 0
Agree [] [] = Unit {0}
Agree [] (t ∷ ts) = ⊥
Agree (s ∷ ss) [] = ⊥
Agree (s ∷ ss) (t ∷ ts) = (s.0 ≡ t.0) × StandFor s.1 t.1 × Agree ss ts

-- Scripts that agree translate every trace alike, in whatever way positions are found.
abbrev pub SameTranslation : Type 0
SameTranslation = (scripts others : List Script) → AreDistinct scripts → AreDistinct others
    → Agree scripts others → (mode : MatchMode) (hide : Bool) (trace : List ℕ)
    → translation_by (fate_by mode scripts hide) trace ≡ translation_by (fate_by mode others hide) trace
