use Rattle.std.proofs.Common.{◌∙◌, sym, arith, ◌-◌, ◌+◌}
use Rattle.smap_link.specs.CommentView.{effect_in}
use Rattle.smap_link.proofs.CommentLemmas.{ends_comment, goes_on}
use Rattle.smap_link.proofs.comment.block_step.Goals as goal

pub returns-then-closes : goal.returns-then-closes
returns-then-closes c = λ two.
    ends_comment two c.args.line.now c.args.i c.args.start (c.args.i - 1 - c.args.start)
    (effect_in c.args.link)
    (effect_in c.after_comment.result) c.requires.within (sym c.closes.ensures ∙ c.if-closes.true)
    (omega arith)
    c.after_comment.ensures

pub returns-else-closes : goal.returns-else-closes
returns-else-closes c = λ two.
    goes_on two c.args.line.now c.args.i c.args.start (c.args.i + 1 - c.args.start) (effect_in c.args.link)
    c.requires.within (sym c.closes.ensures ∙ c.if-closes.false) (omega arith)
