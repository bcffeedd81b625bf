-- What contracts say of a file that is written beside its name.
use Rattle.std.specs.Prelude.{ℕ, List, string_bytes}
use Rattle.smap_system.specs.declared.beside.Beside.{Beside}

-- the name that it has until it is finished
abbrev pub temporary_in : Beside → List ℕ
temporary_in b = string_bytes b.temporary

-- the name that it takes at the end
abbrev pub target_in : Beside → List ℕ
target_in b = string_bytes b.target
