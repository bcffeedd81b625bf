-- A map without the mappings that change no lookup's original.
use Rattle.std.specs.Prelude.{◌≡◌, ℕ, ◌≤◌, ◌==◌, ◌&&◌, ◌||◌, Bool, false, List, [], ◌∷◌, Option, Some, None}
use Rattle.std.specs.Prelude.{IfSome, if◌then◌else◌}
use Rattle.std.specs.Option.{option_eq}
use Rattle.smap_record.specs.Record.{Mapping, Origin, Record, same_entry, same_text}

abbrev pub same_origin : Origin → Origin → Bool
same_origin a b = same_entry a.source b.source && (a.line == b.line && (a.column == b.column
    && same_text a.name b.name))

-- whether the next mapping is at the mapping's position, so that no lookup finds it
abbrev pub is_overtaken : Mapping → List Mapping → Bool
is_overtaken m [] = false
is_overtaken m (n ∷ ns) = n.line == m.line && n.column == m.column

-- the original up to where a mapping on the line begins: that of the last mapping before it, if that is
-- on the
-- line too
abbrev pub original_before : Option Mapping → ℕ → Option Origin
original_before None line = None
original_before (Some p) line = if p.line == line then p.origin else None

-- whether the mapping changes nothing behind the last one that stayed
abbrev pub is_spare : Option Mapping → Mapping → List Mapping → Bool
is_spare last m later = is_overtaken m later || option_eq same_origin (original_before last m.line) m.origin

-- the mappings behind the last one that stayed
abbrev pub thin_after : Option Mapping → List Mapping → List Mapping
thin_after last [] = []
thin_after last (m ∷ ms) = if is_spare last m ms then thin_after last ms else m ∷ thin_after (Some m) ms

abbrev pub thinned : Record → Record
thinned r = record r { mappings = thin_after None r.mappings }

-- the second is not before the first
abbrev pub Follows : Mapping → Mapping → Type 0
Follows p m = (p.line ≤ m.line) × (p.line ≡ m.line → p.column ≤ m.column)

-- none is before the one before it
abbrev pub Rises : Option Mapping → List Mapping → Type 0
Rises last [] = Unit {0}
Rises last (m ∷ ms) = IfSome last (λ p. Follows p m) × Rises (Some m) ms
