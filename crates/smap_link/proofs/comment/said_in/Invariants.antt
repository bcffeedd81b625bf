use Rattle.std.proofs.Common.{◌≡◌, ◌≤◌, length, take}
use Rattle.smap_link.specs.Comment as spec
use Rattle.smap_link.proofs.comment.said_in.Given as goal

abbrev pub invariant-lines : goal.invariant-lines
invariant-lines l = (l.end ≤ length l.text)
    × (spec.said_in l.two l.text ≡ spec.said_in l.two (take l.end l.text))

abbrev pub decreases-lines : goal.decreases-lines
decreases-lines l = l.end
