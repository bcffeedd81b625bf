use Rattle.std.proofs.Common.{◌≡◌, ◌≤◌}
use Rattle.smap_link.specs.Comment as spec
use Rattle.smap_link.specs.CommentView.{effect_from}
use Rattle.smap_link.proofs.comment.link_of_line.Given as goal

abbrev pub invariant-loop-i : goal.invariant-loop-i
invariant-loop-i l = (spec.effect_of l.two l.line ≡ effect_from l.two l.line l.i l.scan)
    × (l.scan.start ≤ l.i)
