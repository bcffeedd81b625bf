-- What the calls that make a map of others come to.
use Rattle.std.specs.Prelude.{◌≡◌, ◌⊎◌, ℕ, true, false, List, Option, Some, None, map}
use Rattle.std.specs.List.{Contains}
use Rattle.smap_record.specs.Record.{Allowed, ReadMap, Record, record_of}
use Rattle.smap_compose.specs.Composing.{Maps, composition}
use Rattle.smap_compose.specs.Numbered.{is_too_many, maps_of}
use Rattle.smap_compose.specs.Thinning.{thinned}
use Rattle.smap_compose.specs.Using.{used}
use Rattle.smap_c_answers.specs.Codes as codes
use Rattle.smap_c.specs.Maps.{AreLimits, allowed}
use Rattle.smap_c.specs.declared.maps.SmapLimits.{SmapLimits}
use Rattle.smap_c.specs.declared.opened.Opened.{Opened}
use Rattle.smap_c.specs.declared.composing.Making.{Making}
use Rattle.smap_c.specs.declared.composing.Making.TheVariants as makings

-- ---- a map that is made

-- It has this record, and the base of the map that it was made of. No text writes its sources.
abbrev pub HoldsMade : Opened → Record → Option Opened → Type 0
HoldsMade o r None = ⊥
HoldsMade o r (Some n) = (record_of n.map ≡ r) × (n.base.value ≡ o.base.value) × (n.written ≡ None)

-- The handle has it, or memory ran out and the handle is as it was.
abbrev pub Makes : Opened → Record → Option Opened → Option Opened → ℕ → Type 0
Makes o r old new code = (HoldsMade o r new × (code ≡ codes.OK)) ⊎ ((new ≡ old) × (code ≡ codes.MEMORY))

-- The same of the map of a handle.
abbrev pub MakesInto : (Record → Record) → Option Opened → Option Opened → Option Opened → ℕ → Type 0
MakesInto make None old new code = (code ≡ codes.CLOSED) × (new ≡ old)
MakesInto make (Some o) old new code = Makes o (make (record_of o.map)) old new code

-- for private contracts: what is made of a record
abbrev pub made_by : Making → Record → Record
made_by makings.Thinned r = thinned r
made_by makings.Used r = used r

-- ---- compositions

-- the maps of the sources of a map: an index that isn't below the count of these leads to none
abbrev pub leading : Opened → List ReadMap → List ℕ → Maps
leading o ms indices = maps_of o.map ms (map Some indices)

-- The handle has the composition, which isn't too large, or is as it was: it would be, or memory ran out.
abbrev pub Composes : Opened → List ReadMap → List ℕ → Allowed → Option Opened → Option Opened → ℕ → Type 0
Composes o ms indices limits old new code =
    ((is_too_many limits (record_of o.map) (leading o ms indices) ≡ false)
    × Makes o (composition (record_of o.map) (leading o ms indices)) old new code)
    ⊎ (((is_too_many limits (record_of o.map) (leading o ms indices) ≡ true)
    × ((code ≡ codes.TOO_MANY) × (new ≡ old)))
    ⊎ ((code ≡ codes.MEMORY) × (new ≡ old)))

-- The limits are too large, or a handle is closed, or all are open and it is their composition; or memory ran
-- out.
abbrev pub ComposesInto : Option Opened → List (Option Opened) → List ℕ → SmapLimits → Option Opened
    → Option Opened → ℕ → Type 0
ComposesInto outer inner indices asked old new code =
    ((AreLimits asked → ⊥) × ((code ≡ codes.LIMITS) × (new ≡ old)))
    ⊎ (((Contains inner None ⊎ (outer ≡ None)) × ((code ≡ codes.CLOSED) × (new ≡ old)))
    ⊎ (((code ≡ codes.MEMORY) × (new ≡ old))
    ⊎ ((o : Opened) × (os : List Opened) × AreLimits asked × (outer ≡ Some o) × (inner ≡ map Some os)
    × Composes o (map (λ x. x.map) os) indices (allowed asked) old new code)))

-- for private contracts: the same of a handle, once the limits and the inner maps are there
abbrev pub ComposesOpen : Option Opened → List ReadMap → List ℕ → Allowed → Option Opened → Option Opened → ℕ
    → Type 0
ComposesOpen None ms indices limits old new code = (code ≡ codes.CLOSED) × (new ≡ old)
ComposesOpen (Some o) ms indices limits old new code = Composes o ms indices limits old new code

-- for private contracts: why there is no share in a map
abbrev pub NotShared : Option Opened → ℕ → Type 0
NotShared held code = (code ≡ codes.MEMORY) ⊎ ((code ≡ codes.CLOSED) × (held ≡ None))
