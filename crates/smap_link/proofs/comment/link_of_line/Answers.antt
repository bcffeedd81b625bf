use Rattle.std.proofs.Common.{◌≡◌, ◌∙◌, ap, sym, length, arith}
use Rattle.smap_link.specs.CommentView.{effect_from}
use Rattle.smap_link.proofs.comment.link_of_line.Goals as goal

pub returns : goal.returns
returns c =
    let line = c.args.line.now in
    let all : c.loop-i.i ≡ length line = omega arith in
    c.at_end.ensures c.args.two
    ∙ ap (λ n. effect_from c.args.two line n c.loop-i.scan) (sym all) ∙ sym c.loop-i.invariant.0
