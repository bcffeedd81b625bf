use Rattle.std.proofs.Common.{◌≡◌, ◌<◌, arith, length, map}
use Rattle.std.proofs.lemmas.List.{length-map}
use Rattle.smap_extract.specs.Renaming as spec
use Rattle.smap_extract.proofs.RenameLemmas.{one_more}
use Rattle.smap_extract.proofs.reading_back.are_respelled.Goals as goal

pub loop-i-preserved : goal.loop-i-preserved
loop-i-preserved c =
    let f = spec.respelled (spec.prefixes_in c.args.prefixes.now) in
    let within : c.loop-i.i < length c.args.old.now = omega arith in
    let also : c.loop-i.i < length c.args.new.now = omega arith in
    one_more c.args.new.now (map f c.args.old.now) c.loop-i.i also (rw (length-map c.args.old.now f) within)
    c.loop-i.invariant (c.in_ok-is_respelled.ensures c.if-not-branch.false)
