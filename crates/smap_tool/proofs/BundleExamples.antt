-- Known answers of bundles.
use Rattle.std.proofs.Common.{◌≡◌, [], codes, Err, refl}
use lib.Utf8.{encode}
use Rattle.std.specs.Str.{is_utf8, chars}
use Rattle.url.proofs.OnLiterals.{url_on_literals}
use Rattle.smap_tool.specs.declared.fault.BundleFault.TheVariants.{TooLong}
use Rattle.smap_tool.specs.declared.fault.EntryFault.TheVariants as wrong
use Rattle.smap_tool.specs.Bundle.{bundle_from, bundle_of, entry_in, fault_after}
use Rattle.smap_tool.specs.Header.{header_in}

-- the line `trace` without its line feed
trace_without_feed : bundle_of (codes "trace") ≡ Err (fault_after [] wrong.Header)
unfolding bundle_of bundle_from entry_in header_in
trace_without_feed = refl

-- the length comes before the base
too_long_map : bundle_of (codes "map a b 268435457\n") ≡ Err TooLong
unfolding bundle_of bundle_from entry_in header_in is_utf8 chars encode
too_long_map = refl

-- the base comes before the end of the input
no_url : bundle_of (codes "map a b 0\n") ≡ Err (fault_after [] wrong.Base)
unfolding bundle_of bundle_from entry_in header_in is_utf8 chars encode url_on_literals
no_url = refl

ends_in_map : bundle_of (codes "map a http://h/ 0\n") ≡ Err (fault_after [] wrong.CutOff)
unfolding bundle_of bundle_from entry_in header_in is_utf8 chars encode url_on_literals
ends_in_map = refl
