use Rattle.std.proofs.Common.{sym}
use Rattle.smap_record.specs.Views.{mapping_of_view, entry_of_view}
use Rattle.smap_view_page.proofs.OwnerLemmas.{owner_at}
use Rattle.smap_view_page.proofs.PlaceLemmas.{number_is}
use Rattle.smap_view_page.proofs.measuring.owner_of.Goals as goal

pub returns-in-Some-clause-owner : goal.returns-in-Some-clause-owner
returns-in-Some-clause-owner c =
    let m = c.args.map.now in
    let o = c.in-Some.original in
    owner_at m c.args.number o.source_number (mapping_of_view c.token.result) c.token.ensures.mapping
    (rw c.in-Some.is (number_is m.listing.sources (entry_of_view o.source) o.source_number
    (rw c.in-Some.is at c.token.ensures.number)))

pub returns-in-None-clause-owner : goal.returns-in-None-clause-owner
returns-in-None-clause-owner c =
    owner_at c.args.map.now c.args.number c.source_count.result (mapping_of_view c.token.result)
    c.token.ensures.mapping (rw c.in-None.is (sym c.source_count.ensures))
