use Rattle.std.proofs.Common.{sym, refl, ◌<◌, arith, length}
use Rattle.std.proofs.lemmas.Int.{to_z-of_z}
use Rattle.std.proofs.lemmas.Bool.{eqb-true}
use Rattle.std.proofs.lemmas.Bool.Decides.{nat_tests}
use mir.Syntax.{w32}
use mir.Val.{SFits}
use Rattle.std.proofs.Common.{rules}
use Rattle.smap_vlq.proofs.SegmentLemmas.{goes_on, segment_fails, segment_ok, segment_miscounted, moves}
use Rattle.smap_vlq.proofs.SegmentLawLemmas.{empty_segment}
use Rattle.std.proofs.lemmas.List.{nil_from_length}
use Rattle.smap_vlq.proofs.segment.read_segment.Goals as goal

pub returns-then-is_empty : goal.returns-then-is_empty
returns-then-is_empty c =
    let none = nil_from_length c.args.text.now (eqb-true _ _ (sym c.if-is_empty.ensures)) in
    rw (none, empty_segment) refl

pub loop-place-smaller : goal.loop-place-smaller
loop-place-smaller c = let m = moves c.args.text.now c.loop-place.place c.in-Ok.number c.in-Ok.after
    c.in-Ok.ensures in omega arith

pub loop-place-preserved : goal.loop-place-preserved
loop-place-preserved c =
    let f : SFits w32 c.in-Ok.number = search rules in
    rw (c.keep.ensures, to_z-of_z w32 c.in-Ok.number f) (goes_on c.args.text.now c.loop-place.numbers
    c.loop-place.place c.loop-place.count c.in-Ok.number c.in-Ok.after c.loop-place.invariant c.in-Ok.ensures)

pub returns-in-Err : goal.returns-in-Err
returns-in-Err c = rw c.u8_count.ensures (sym (segment_fails c.args.text.now c.loop-place.numbers
    c.loop-place.place c.loop-place.count c.in-Err.fault c.loop-place.invariant c.loop-place-test.true
    c.in-Err.ensures))

pub returns-then-is_field_count : goal.returns-then-is_field_count
returns-then-is_field_count c =
    sym (segment_ok c.args.text.now c.loop-place.numbers c.loop-place.place c.loop-place.count
    c.loop-place.invariant c.loop-place-test.false (sym c.if-is_field_count.ensures.is) (search rules))

pub returns : goal.returns
returns c =
    let lt : 0 < length c.args.text.now = grind (arith, nat_tests) in
    rw c.u8_count-2.ensures (sym (segment_miscounted c.args.text.now c.loop-place.numbers c.loop-place.place
    c.loop-place.count c.loop-place.invariant lt c.loop-place-test.false
    (sym c.if-is_field_count.ensures.is)))
