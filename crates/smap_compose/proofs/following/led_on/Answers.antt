use Rattle.std.proofs.Common.{arith}
use Rattle.std.proofs.lemmas.Option.{slice_get_within}
use Rattle.smap_record.specs.Record.{record_of}
use Rattle.smap_record.specs.Views.{entry_of_view}
use Rattle.smap_compose.proofs.FollowingLemmas.{place_found}
use Rattle.smap_compose.proofs.following.led_on.Goals as goal

pub returns-clause-within : goal.returns-clause-within
returns-clause-within c = λ count most.
    let p = c.in_ok-found.found in
    let place = place_found c.args.map.now.listing c.args.original.line c.args.original.column
    c.origin_in.result p c.token_count.ensures.listing c.origin_in.ensures.found c.in_ok-found.was in
    let below = slice_get_within (record_of c.args.map.now).sources p.source_number (entry_of_view p.source)
    c.in_ok-found.ensures.number in
    record { source = omega (arith, below, most); line = place.line; column = place.column }
