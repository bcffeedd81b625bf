use Rattle.std.proofs.Common.{◌≡◌, map, take}
use Rattle.smap_system.specs.Fixed as spec
use Rattle.smap_system.specs.Tree.{entry_in}
use Rattle.smap_system.proofs.fixed.listing_of.Given as goal

abbrev pub invariant-loop-i : goal.invariant-loop-i
invariant-loop-i l = map entry_in l.listed.items ≡ map spec.entry_of (take l.i l.entries)
