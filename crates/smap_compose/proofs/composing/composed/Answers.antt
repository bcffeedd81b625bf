use Rattle.std.proofs.Common.{ap, arith, length, map}
use Rattle.smap_compose.specs.Following.{texts_of}
use Rattle.smap_compose.specs.Numbered.{maps_of}
use Rattle.smap_compose.specs.Composing.{through}
use Rattle.smap_record.specs.Record.{mapping_of}
use Rattle.smap_compose.proofs.JoiningLemmas.{falls_through, is_listing_of}
use Rattle.smap_compose.proofs.composing.composed.Goals as goal

pub map_of-requires : goal.map_of-requires
map_of-requires g c =
    let sources = ap length c.in_ok-standing.ensures.sources in
    let l = c.args.outer.now.listing in
    let maps = maps_of c.args.outer.now (map g.H.HasMap.held_map c.args.inner.now) c.args.leads.now in
    is_listing_of (map (through maps) (map (mapping_of l) l.tokens)) c.in_ok-standing.standing.sources
    (texts_of c.in_ok-joined.joined.names.keys) c.in_ok-joined.joined.tokens.items
    (falls_through l maps c.token_count.ensures.listing) c.in_ok-joined.ensures.joins
    (omega (arith, sources, c.requires.few, c.requires.items))
    (omega (arith, c.in_ok-joined.ensures.few, c.requires.items))
