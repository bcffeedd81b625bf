-- What files hold, where a disk says so: that of the machine says nothing, since it isn't the program's
-- alone.
use Rattle.std.specs.Prelude.{◌≡◌, ℕ, List, length, ⊤, Option, Some, None, option_map}

-- What files hold, by their names: nothing is said, or what each holds.
abbrev pub Held : Type 0
Held = Option (List ℕ → Option (List ℕ))

-- The file with this name holds these bytes, where it is said what files hold.
abbrev pub IsHeld : Held → List ℕ → List ℕ → Type 0
IsHeld None name bytes = ⊤
IsHeld (Some held) name bytes = held name ≡ Some bytes

-- No file has this name, where it is said what files hold.
abbrev pub IsNotHeld : Held → List ℕ → Type 0
IsNotHeld None name = ⊤
IsNotHeld (Some held) name = held name ≡ None

-- A reader knows what it has left.
abbrev pub IsKnown : Option (List ℕ) → Type 0
IsKnown None = ⊥
IsKnown (Some bytes) = ⊤

-- A file has this name, where it is said what files hold.
abbrev pub IsOneHeld : Held → List ℕ → Type 0
IsOneHeld None name = ⊤
IsOneHeld (Some held) name = IsKnown (held name)

-- A reader has all that the file with this name holds, where it is said what files hold.
abbrev pub GivesHeld : Held → List ℕ → Option (List ℕ) → Type 0
GivesHeld None name left = ⊤
GivesHeld (Some held) name left = (held name ≡ left) × IsKnown left

-- So many bytes the file with this name holds, where it is said what files hold.
abbrev pub HasSize : Held → List ℕ → ℕ → Type 0
HasSize None name size = ⊤
HasSize (Some held) name size = option_map length (held name) ≡ Some size
