-- What a map becomes that is composed with the maps of its sources.
use Rattle.std.specs.Prelude.{◌≡◌, ℕ, Bool, true, List, Some, Ok, cond}
use Rattle.url.specs.Parts.{Parts}
use Rattle.smap_canon.specs.Canonical.{canonical_text_in}
use Rattle.smap_canon.specs.Layout.{form_asked}
use Rattle.smap_chains.specs.Closing.{IsClosed}
use Rattle.smap_chains.specs.declared.chains.ChainAsked.{ChainAsked}
use Rattle.smap_compose.specs.Thinning.{thinned}
use Rattle.smap_compose.specs.Using.{used}
use Rattle.smap_record.specs.Record.{ReadMap, Record, record_of, usual}
use Rattle.smap_record.specs.UrlBytes.{reading_within}
use Rattle.smap_system.specs.Held.{Held}

-- thinned, and without unused sources, as is asked for
abbrev pub finished : Bool → Bool → Record → Record
finished thin only r = cond only (used (cond thin (thinned r) r)) (cond thin (thinned r) r)

-- A map composed with those that its sources lead to, as is asked for it.
pub record IsClosedOver (held : Held) (map closed : ReadMap) : Type 0 where
  pub asked : ChainAsked
  pub script : List ℕ
  pub is_closed : IsClosed held asked script map closed

-- This is the canonical text of the map with these bytes, so composed.
pub record IsComposedTo (held : Held) (base : Parts) (most : ℕ) (old new : List ℕ) : Type 0 where
  pub map : ReadMap
  pub reads : reading_within base usual most old ≡ Ok (Some map)
  pub closed : ReadMap
  pub is_closed : IsClosedOver held map closed
  pub thin : Bool
  pub only : Bool
  pub is : new ≡ canonical_text_in (form_asked true) base (finished thin only (record_of closed))
