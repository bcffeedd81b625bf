-- The permissions of a file that takes the place of another.
use Rattle.std.specs.Prelude.{ℕ, ◌/◌, ◌*◌, Bool, bit_and, bit_or, if◌then◌else◌}

-- what both the group and all others may do
abbrev pub shared : ℕ → ℕ
shared mode = bit_and (bit_and mode (mode / 8)) 0o7

-- With the other's owner and group its mode. Without the owner no bit that runs a program as its owner or its
-- group; without the group, the new group and all others may do what both could before.
abbrev pub rights : ℕ → Bool → Bool → ℕ
rights mode keeps_owner keeps_group =
    if keeps_group then (if keeps_owner then bit_and mode 0o7777 else bit_and mode 0o777)
    else bit_or (bit_or (bit_and mode 0o700) (shared mode * 8)) (shared mode)
