-- How a version is reported as one number.
use Rattle.std.specs.Prelude.{ℕ, ◌+◌, ◌*◌}

-- two decimal digits each for the minor and the patch version
abbrev pub version_number : ℕ → ℕ → ℕ → ℕ
version_number major minor patch = major * 10000 + (minor * 100 + patch)
