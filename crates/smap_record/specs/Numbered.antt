-- For private contracts: listed sources as indices into the list of distinct ones.
use Rattle.std.specs.Prelude.{◌≡◌, ℕ, ◌<◌, List, map, length, slice_get, unwrap_or}
use Rattle.std.specs.List.{AllByRecursion}
use Rattle.indexmap.specs.IndexSet.{insert_key}
use Rattle.smap_record.specs.declared.entry.SourceEntry.{SourceEntry}
use Rattle.smap_record.specs.Record.{Entry, no_entry, distinct, same_entry}
use Rattle.smap_record.specs.Entries.{entry_of}

-- the source with this index
abbrev pub entry_at : List SourceEntry → ℕ → Entry
entry_at entries i = unwrap_or (slice_get (map entry_of entries) i) no_entry

-- The indices are those of sources, which are each once and in order of first listing.
pub record IsNumbered (entries : List SourceEntry) (numbers : List ℕ) : Type 0 where
  pub within : AllByRecursion (λ i. i < length entries) numbers
  pub each_once : map entry_of entries ≡ distinct same_entry (map (entry_at entries) numbers)

-- The entry has an index in the new list, in which indices of the old one mean the same.
pub record Numbers (old : List SourceEntry) (entry : Entry) (new : List SourceEntry) (i : ℕ) : Type 0 where
  pub kept : (k : ℕ) → k < length old → entry_at new k ≡ entry_at old k
  pub longer : (k : ℕ) → k < length old → k < length new
  pub at : entry_at new i ≡ entry
  pub within : i < length new
  pub once : map entry_of new ≡ insert_key same_entry (map entry_of old) entry
