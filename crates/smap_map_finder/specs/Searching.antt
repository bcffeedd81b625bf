-- What contracts say of a search.
use Rattle.smap_system.specs.Held.{Held}
use Rattle.smap_map_files.specs.declared.wanted.Wanted.{Wanted}
use Rattle.smap_map_finder.specs.declared.opening.Search.{Search}

-- what the files of its disk hold
abbrev pub held_in : {E D : Type 0} → (D → Held) → Search E D → Held
held_in held s = held s.host.now.disk.now

-- what the arguments name
abbrev pub wanted_in : {E D : Type 0} → Search E D → Wanted
wanted_in s = s.wanted.now
