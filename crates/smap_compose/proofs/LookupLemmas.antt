-- A lookup where each mapping stays at its position.
use Rattle.std.proofs.Common.{◌≡◌, ℕ, List, [], ◌∷◌, map, Option, Some, None, refl, Bool, true, false}
use Rattle.std.specs.Prelude.{option_map, option_and_then, if◌then◌else◌}
use Rattle.std.specs.Option.{option_or}
use Rattle.smap_record.specs.Record.{Mapping, Record}
use Rattle.smap_trace.specs.Lookup.{mapping_at, is_within}
use Rattle.smap_compose.specs.Composing.{Maps, composition, followed, origin_in, through}

or_map : (f : Mapping → Mapping) (a b : Option Mapping)
    → option_or (option_map f a) (option_map f b) ≡ option_map f (option_or a b)
or_map f None b = refl
or_map f (Some x) b = refl

if_map : (f : Mapping → Mapping) (c : Bool) (m : Mapping)
    → (if c then Some (f m) else None) ≡ option_map f (if c then Some m else None)
if_map f true m = refl
if_map f false m = refl

pub lookup_through : (maps : Maps) (ms : List Mapping) (line column : ℕ)
    → mapping_at (map (through maps) ms) line column ≡ option_map (through maps) (mapping_at ms line column)
lookup_through maps [] line column = refl
lookup_through maps (m ∷ ms) line column = rw (
  lookup_through maps ms line column,
  if_map (through maps) (is_within line column m) m,
  or_map (through maps) (mapping_at ms line column) (if is_within line column m then Some m else None),
) refl

pub looked_up : (r : Record) (maps : Maps) (line column : ℕ)
    → mapping_at (composition r maps).mappings line column
    ≡ option_map (through maps) (mapping_at r.mappings line column)
looked_up r maps line column = lookup_through maps r.mappings line column

origin_through : (maps : Maps) (found : Option Mapping)
    → option_and_then (λ (m : Mapping). m.origin) (option_map (through maps) found)
    ≡ option_and_then (followed maps) (option_and_then (λ (m : Mapping). m.origin) found)
origin_through maps None = refl
origin_through maps (Some m) = refl

pub origin_found : (r : Record) (maps : Maps) (line column : ℕ)
    → origin_in (composition r maps) line column ≡ option_and_then (followed maps) (origin_in r line column)
origin_found r maps line column = rw (lookup_through maps r.mappings line column)
    (origin_through maps (mapping_at r.mappings line column))
