use Rattle.std.proofs.Common.{arith}
use Rattle.smap_link.specs.CommentView.{effect_in}
use Rattle.smap_link.proofs.CommentLemmas.{passes_white}
use Rattle.smap_link.proofs.comment.code_step.Goals as goal

pub returns-then-left-gt0 : goal.returns-then-left-gt0
returns-then-left-gt0 c = λ two _ _.
    passes_white two c.args.line.now c.args.i c.args.left (effect_in c.args.link) c.requires
    (omega (arith, c.if-left-gt0.true))
