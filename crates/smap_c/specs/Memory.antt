-- How much memory a handle's map takes.
use Rattle.std.specs.Prelude.{ℕ, ◌≡◌, Option, Some, None}
use Rattle.smap_c_answers.specs.Codes as codes
use Rattle.smap_c_answers.specs.Memory.{capped, memory_of}
use Rattle.smap_c.specs.declared.opened.Opened.{Opened}

-- The memory of a handle's map.
abbrev pub TakesMemory : Option Opened → ℕ → ℕ → ℕ → Type 0
TakesMemory None before after code = (code ≡ codes.CLOSED) × (after ≡ before)
TakesMemory (Some o) before after code =
    (code ≡ codes.OK) × (after ≡ capped (memory_of o.base.value o.map o.written))
