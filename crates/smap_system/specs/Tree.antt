-- What stands under names and in folders, where a disk says so: that of the machine says nothing, since it
-- isn't
-- the program's alone.
use Rattle.std.specs.Prelude.{◌≡◌, ℕ, List, map, ⊤, Option, Some, None, string_bytes}
use Rattle.smap_system.specs.declared.disk.Entry.{Entry}
use Rattle.smap_system.specs.declared.disk.EntryKind.{EntryKind}
use Rattle.smap_system.specs.declared.disk.Kind.{Kind}
use Rattle.smap_system.specs.declared.disk.Listing.{Listing}

-- the name of an entry in its folder, and what it is, links not followed
abbrev pub NamedEntry : Type 0
NamedEntry = List ℕ × EntryKind

pub record Tree : Type 0 where
  -- what is there under a name, links followed
  pub kinds : List ℕ → Kind
  -- the entries of a folder that can be read
  pub entries : List ℕ → Option (List NamedEntry)

-- Nothing is said, or what stands under each name.
abbrev pub Told : Type 0
Told = Option Tree

abbrev pub IsKind : Told → List ℕ → Kind → Type 0
IsKind None path kind = ⊤
IsKind (Some t) path kind = t.kinds path ≡ kind

abbrev pub entry_in : Entry → NamedEntry
entry_in e = (string_bytes e.name, e.kind)

abbrev pub entries_in : Listing → List NamedEntry
entries_in l = map entry_in l.entries.items

abbrev pub IsListed : Told → List ℕ → Listing → Type 0
IsListed None path listing = ⊤
IsListed (Some t) path listing = t.entries path ≡ Some (entries_in listing)

-- Nothing is said.
abbrev pub IsUntold : Told → Type 0
IsUntold told = told ≡ None
