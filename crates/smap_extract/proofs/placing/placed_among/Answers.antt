use Rattle.std.proofs.Common.{◌≡◌, ◌<◌, [], ap, length, rules}
use Rattle.smap_extract.specs.Places.{items_of}
use Rattle.smap_extract.proofs.PlaceLemmas.{none_yet, one_more}
use Rattle.smap_extract.proofs.placing.placed_among.Goals as goal

pub loop-path-init : goal.loop-path-init
loop-path-init c =
    let empty : c.new-taken.result.keys ≡ [] = search rules in
    none_yet (items_of c.args.folders.now.keys) (items_of c.new-taken.result.keys) c.new-all.result.items
    (ap items_of empty) c.new-all.ensures.items

pub loop-path-preserved : goal.loop-path-preserved
loop-path-preserved c =
    let within : c.loop-path.path-index < length c.args.paths.now = search rules in
    one_more (items_of c.args.folders.now.keys) (items_of c.loop-path.taken.keys)
    (items_of c.place.new.taken.keys) c.args.paths.now c.loop-path.all.items c.push.new.self.items
    c.loop-path.path-index c.path-item.result c.in_ok-path.path within c.path-item.is
    c.in_ok-push.ensures.items c.in_ok-path.ensures c.loop-path.invariant
