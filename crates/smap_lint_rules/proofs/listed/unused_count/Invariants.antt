use Rattle.std.proofs.Common.{◌≡◌, length, take}
use Rattle.smap_lint_rules.proofs.MarkLemmas.{AreMarks}
use Rattle.smap_lint_rules.proofs.listed.unused_count.Given as goal

abbrev pub invariant-loop-i : goal.invariant-loop-i
invariant-loop-i l = (length l.marks.items ≡ length l.map.listing.names)
    × AreMarks l.marks.items (take l.i l.map.listing.tokens)
