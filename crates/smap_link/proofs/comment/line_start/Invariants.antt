use Rattle.std.proofs.Common.{◌≤◌, length}
use Rattle.smap_link.proofs.SeparatorLemmas.{Quiet}
use Rattle.smap_link.proofs.comment.line_start.Given as goal

abbrev pub invariant-places : goal.invariant-places
invariant-places l = (l.end ≤ length l.text) × Quiet l.text l.end

abbrev pub decreases-places : goal.decreases-places
decreases-places l = l.end
