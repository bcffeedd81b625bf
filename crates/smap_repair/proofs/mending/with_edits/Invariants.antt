use Rattle.std.proofs.Common.{◌++◌, ℕ, List}
use Rattle.smap_repair.specs.Leading.{Leads}
use Rattle.smap_repair.proofs.mending.with_edits.Given as goal

-- what is done led on from any text that led here
abbrev pub invariant-loop-edit : goal.invariant-loop-edit
invariant-loop-edit l = (old : List ℕ) → Leads l.fn.repairs.items old l.text
    → Leads l.mending.repairs.items old (l.mending.done.items ++ l.mending.left.now)
