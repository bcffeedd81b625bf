use Rattle.std.proofs.Common.{Some, drop, rules, slice_range, sym, take}
use Rattle.std.proofs.lemmas.List.{take_rest}
use Rattle.smap_frames.proofs.PlaceLemmas.{place_is}
use Rattle.smap_frames.proofs.FrameLemmas.{framed_is}
use Rattle.smap_frames.proofs.frames.framed.Goals as goal

pub returns : goal.returns
returns c =
    let line = c.args.line.now in
    let column = place_is c.split_at_last.result.1.now (Some c.in_ok-column_place.column_place)
    c.in_ok-column_place.ensures
    in
    let number = place_is c.split_at_last-2.result.1.now (Some c.in_ok-line_place.line_place)
    c.in_ok-line_place.ensures
    in
    framed_is (take c.args.start line) (slice_range line c.args.start c.args.end) (drop c.args.end line)
    _ _ _ _ _ _ _ (take_rest line c.args.end)
    c.split_at_last.ensures.before c.split_at_last.ensures.after
    c.split_at_last-2.ensures.before c.split_at_last-2.ensures.after
    (search rules) (sym number) (sym column)
