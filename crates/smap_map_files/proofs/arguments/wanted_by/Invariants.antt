use Rattle.std.proofs.Common.{take}
use Rattle.smap_map_files.specs.Lists.{lists_of, no_lists}
use Rattle.smap_map_files.specs.Naming.{NamesAll}
use Rattle.smap_map_files.proofs.arguments.wanted_by.Given as goal

abbrev pub invariant-loop-i : goal.invariant-loop-i
invariant-loop-i g l = NamesAll (g.D.Disk.tree l.host.disk.now) (g.D.Disk.held l.host.disk.now)
    (take l.i l.arguments) no_lists (lists_of l.wanted)
