-- For private contracts: written sources as they are kept, each with the index of its root.
use Rattle.std.specs.Prelude.{ℕ, ◌<◌, List, map, slice_get, Option, None, unwrap_or, option_map}
use Rattle.std.specs.Prelude.{String, string_bytes}
use Rattle.std.specs.declared.alloc.Global.{Global}
use Rattle.std.specs.List.{AllByRecursion}
use Rattle.smap_record.specs.declared.written.NumberedSource.{NumberedSource}
use Rattle.smap_record.specs.Written.{Spelling}

-- the bytes of a root, if there is one
abbrev pub root_of : Option (String Global) → Option (List ℕ)
root_of = option_map string_bytes

-- a source and the index of its root
abbrev pub numbered_of : NumberedSource → Option (List ℕ) × ℕ
numbered_of s = (option_map string_bytes s.text, s.root)

-- a source with its root in place of the root's index
abbrev pub spelling_at : List (Option (List ℕ)) → Option (List ℕ) × ℕ → Spelling
spelling_at roots s = record { source = s.0; root = unwrap_or (slice_get roots s.1) None }

-- the sources that these fields are
abbrev pub spellings : List (Option (String Global)) → List NumberedSource → List Spelling
spellings roots sources = map (spelling_at (map root_of roots)) (map numbered_of sources)

-- The indices are those of roots.
abbrev pub HaveRoots : ℕ → List NumberedSource → Type 0
HaveRoots count sources = AllByRecursion (λ s. s.1 < count) (map numbered_of sources)

-- the sources of a flat map, each with the index of the map's root
abbrev pub with_root : ℕ → List (Option (List ℕ)) → List (Option (List ℕ) × ℕ)
with_root n sources = map (λ source. (source, n)) sources
