-- For private contracts: what the fields of a list of sources stand for.
use Rattle.std.specs.Prelude.{List, map}
use Rattle.smap_record.specs.declared.sources.Sources.TheInside.{Inside}
use Rattle.smap_record.specs.Record.{Entry}
use Rattle.smap_record.specs.Numbered.{entry_at, IsNumbered}

-- the sources as listed
abbrev pub listed_entries : Inside → List Entry
listed_entries s = map (entry_at s.distinct.keys) s.listed.items

-- The indices are those of the distinct sources.
abbrev pub AreSources : Inside → Type 0
AreSources s = IsNumbered s.distinct.keys s.listed.items
