-- The constants of the code are the limits of the definitions.
use Rattle.std.proofs.Common.{◌≡◌, refl}
use Rattle.smap_io.specs.declared.reading.TheConstants.{LIMIT, MOST_CALLS}
use Rattle.smap_io.specs.Limits.{longest_input, most_calls}

longest_input_is : LIMIT ≡ longest_input
longest_input_is = refl

most_calls_is : MOST_CALLS ≡ most_calls
most_calls_is = refl
