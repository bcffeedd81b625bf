-- The constants of the code are the limits of the definitions.
use Rattle.std.proofs.Common.{◌≡◌, refl}
use Rattle.smap_vlq.specs.declared.number.TheConstants.{MAX_POSITION}
use Rattle.smap_vlq.specs.Limits.{max_position}

max_position_is : MAX_POSITION ≡ max_position
max_position_is = refl
