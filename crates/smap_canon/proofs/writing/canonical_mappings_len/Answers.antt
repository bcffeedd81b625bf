use Rattle.smap_record.specs.Record.{record_of}
use Rattle.smap_canon.specs.Canonical.{canonical_listing}
use Rattle.smap_canon.proofs.LengthLemmas.{whole-length}
use Rattle.smap_canon.proofs.writing.canonical_mappings_len.Goals as goal

pub returns : goal.returns
returns c =
    let are = c.in_ok-pass_numbered.ensures in
    whole-length c.args.map.now c.len.result are.listing are.few
    (c.len.ensures (canonical_listing (record_of c.args.map.now)).tokens are.passed)
