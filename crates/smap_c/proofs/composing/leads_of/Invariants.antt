use Rattle.std.proofs.Common.{◌≡◌, Some, map, take}
use Rattle.smap_c.proofs.composing.leads_of.Given as goal

-- those that were gone through
abbrev pub invariant-loop-i : goal.invariant-loop-i
invariant-loop-i l = l.leads.items ≡ map Some (take l.i l.indices)
