-- The constants of the code are the limits of the definitions.
use Rattle.std.proofs.Common.{◌≡◌, refl}
use Rattle.smap_tool.specs.declared.header.TheConstants.{LONGEST_HEADER}
use Rattle.smap_tool.specs.Header.{longest_header}

longest_header_is : LONGEST_HEADER ≡ longest_header
longest_header_is = refl
