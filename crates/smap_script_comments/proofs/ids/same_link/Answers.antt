use Rattle.std.proofs.Common.{◌∙◌}
use Rattle.smap_script_comments.proofs.ids.same_link.Goals as goal

pub returns-in-Some : goal.returns-in-Some
returns-in-Some c = λ is. c.names.ensures is ∙ rw c.in-Some.is at c.link_in.ensures
