use Rattle.std.proofs.Common.{◌∙◌, sym}
use Rattle.serde_json.specs.View.{view}
use Rattle.smap_shape.specs.Contents.{contents_member, contents_of}
use Rattle.smap_shape.proofs.ContentsLemmas.{shape_unread, unread}
use Rattle.smap_shape.proofs.contents.split_contents.Goals as goal

pub returns-else-are_contents-clause-members : goal.returns-else-are_contents-clause-members
returns-else-are_contents-clause-members c =
    shape_unread (contents_of (view c.args.tree)) (view c.args.tree)
    (unread (contents_member (view c.args.tree)) (sym c.are_contents.ensures ∙ c.if-are_contents.false))
