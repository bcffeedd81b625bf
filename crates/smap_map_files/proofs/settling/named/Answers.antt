use Rattle.std.proofs.Common.{◌≡◌, Some, false, arith, refl, slice_get}
use Rattle.std.proofs.lemmas.Option.{slice_get-get_or, slice_get_read}
use Rattle.smap_map_files.specs.declared.wanted.Origin.TheVariants as origin
use Rattle.smap_map_files.proofs.NamedLemmas.{named_is, no_named}
use Rattle.smap_map_files.proofs.settling.named.Goals as goal

pub returns-then-i-min : goal.returns-then-i-min
returns-then-i-min c =
    let place : slice_get c.args.places.now c.args.i ≡ Some c.index-places-i.result =
    slice_get_read c.args.places.now _ c.args.i c.index-places-i.result refl (omega
    (arith, c.if-i-min.true, c.min.ensures)) c.index-places-i.is in
    named_is c.args.places.now c.args.origins.now c.args.i c.index-places-i.result _ place
    (slice_get-get_or c.args.origins.now c.args.i (origin.Alone false) (omega
    (arith, c.if-i-min.true, c.min.ensures)))

pub returns-else-i-min : goal.returns-else-i-min
returns-else-i-min c = no_named c.args.places.now c.args.origins.now c.args.i (omega
    (arith, c.if-i-min.false, c.min.ensures))
