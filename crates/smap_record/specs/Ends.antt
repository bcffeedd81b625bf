-- Maps that end where the lines of their scripts do.
use Rattle.std.specs.Prelude.{ℕ, List}
use Rattle.smap_mappings.specs.Ends.{ended}
use Rattle.smap_record.specs.Record.{Listing, ReadMap}

abbrev pub ended_listing : List ℕ → Listing → Listing
ended_listing widths l = record l { tokens = ended widths l.tokens }

-- The map of a script whose lines are so wide: past their ends nothing has an original.
abbrev pub ended_map : List ℕ → ReadMap → ReadMap
ended_map widths m = record m { listing = ended_listing widths m.listing }
