use Rattle.std.proofs.Common.{sym}
use Rattle.smap_compose.proofs.FollowingLemmas.{led_to_held}
use Rattle.smap_compose.proofs.standing.led_at.Goals as goal

pub returns-in-Some : goal.returns-in-Some
returns-in-Some g c = sym (led_to_held g.H.HasMap.held_map c.args.inner.now c.number_of.result _ c.in-Some.k
    c.index-inner-k.result c.map.result.now c.number_of.ensures.map c.in-Some.is c.in-Some.ensures.within
    c.index-inner-k.is c.map.ensures)
