use Rattle.std.proofs.Common.{drop, length}
use Rattle.smap_view_page.specs.Comments.{opens}
use Rattle.smap_view_page.proofs.CommentLemmas.{next_last}
use Rattle.smap_view_page.proofs.comments.code_length.Goals as goal

pub loop-at-preserved : goal.loop-at-preserved
loop-at-preserved c =
    next_last (λ at. opens (drop at c.args.text.now)) (length c.args.text.now) c.loop-at.at c.loop-at.last
    c.later-last.result c.later-last.ensures c.loop-at.invariant
