use Rattle.std.proofs.Common.{◌∙◌, ap, drop, option_and_then, rules, slice_range, take}
use Rattle.smap_frames.specs.Reading.{framed_at}
use Rattle.smap_frames.proofs.FrameLemmas.{inside}
use Rattle.smap_frames.proofs.frames.read.Goals as goal

pub returns : goal.returns
returns c =
    let line = c.args.line.now in
    let text = slice_range line c.args.start c.args.end in
    let there = c.in_ok-lead.ensures.within in
    c.framed.ensures
    ∙ inside line c.args.start c.args.end c.in_ok-lead.lead c.in_ok-lead.stop (search rules) (search rules)
    there.0 there.1
    ∙ ap (option_and_then (framed_at (take c.args.start line) text (drop c.args.end line)))
    c.in_ok-lead.ensures.value
