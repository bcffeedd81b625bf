use Rattle.smap_system.specs.Held.{IsHeld}
use Rattle.smap_map_finder.specs.Choice.{IsOneMap}
use Rattle.smap_map_finder.proofs.CopyLemmas.{alike_of}
use Rattle.smap_map_finder.proofs.opening.Search.hold_alike.Goals as goal

pub returns : goal.returns
returns g c = λ are.
    let held = g.D.Disk.held c.args.self.now.host.now.disk.now in
    let one : IsHeld held c.args.first.now c.in-Some.bytes.items = rw c.in-Some.is at c.in_ok-bytes.ensures in
    let other : IsHeld held c.args.second.now c.in-Some-2.others.items =
    rw c.in-Some-2.is at c.in_ok-others.ensures in
    let is : IsOneMap c.args.self.now.wanted.now.reading c.args.url.now c.in-Some.bytes.items
    c.in-Some-2.others.items = rw (c.deref.ensures.value, c.deref-2.ensures.value)
    at (c.in_ok-are_one_map.ensures are) in
    alike_of c.args.self.now.wanted.now.reading held c.args.url.now c.args.first.now c.args.second.now _ _ one
    other is
