use Rattle.smap_record.specs.MapView.{listing_of}
use Rattle.smap_record.proofs.EndedLemmas.{ended_is_listing}
use Rattle.smap_record.proofs.map.SourceMap.ended.Goals as goal

pub new-requires : goal.new-requires
new-requires c = rw (c.in_ok-tokens.ensures.ended, c.deref.ensures.value)
    (ended_is_listing (listing_of c.self.inside.listing) c.args.widths.now c.self.invariant)
