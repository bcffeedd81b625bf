-- The first rows.
use Rattle.std.proofs.Common.{refl}
use Rattle.smap_tool.specs.Bundle.{bundle_from, bundle_of, entry_in}
use Rattle.smap_tool.specs.Header.{header_in}
use Rattle.smap_tool.specs.BundleLaws.{FirstRows}

pub first_rows : FirstRows
unfolding bundle_of bundle_from entry_in header_in
first_rows = (refl, refl)
