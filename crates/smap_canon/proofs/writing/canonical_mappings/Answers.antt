use Rattle.std.proofs.Common.{ap, arith, length}
use Rattle.smap_canon.proofs.LengthLemmas.{canonical_length}
use Rattle.smap_canon.proofs.writing.canonical_mappings.Goals as goal

pub returns-clause-short : goal.returns-clause-short
returns-clause-short c = omega (
  arith,
  canonical_length c.args.map.now c.in_ok-mappings.ensures.listing,
  ap length c.in_ok-mappings.ensures.text,
)
