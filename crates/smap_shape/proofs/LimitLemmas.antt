-- The constants of the code are the limits of the definitions.
use Rattle.std.proofs.Common.{◌≡◌, refl}
use Rattle.smap_shape.specs.declared.sections.TheConstants.{MAX_LEVEL}
use Rattle.smap_shape.specs.Limits.{max_level}

max_level_is : MAX_LEVEL ≡ max_level
max_level_is = refl
