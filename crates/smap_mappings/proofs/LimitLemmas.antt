-- The constants of the code are the limits of the definitions.
use Rattle.std.proofs.Common.{◌≡◌, refl}
use Rattle.smap_mappings.specs.declared.token.TheConstants.{MAX_LINES, WIDEST}
use Rattle.smap_mappings.specs.Limits.{max_lines, widest}

max_lines_is : MAX_LINES ≡ max_lines
max_lines_is = refl

widest_is : WIDEST ≡ widest
widest_is = refl
