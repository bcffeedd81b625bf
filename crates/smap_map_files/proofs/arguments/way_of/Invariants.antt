use Rattle.smap_map_files.proofs.NamingLemmas.{NoneBefore}
use Rattle.smap_map_files.proofs.arguments.way_of.Given as goal

-- what is tried is a way to read the argument, and nothing is there for those before it
abbrev pub invariant-loop : goal.invariant-loop
invariant-loop g l = NoneBefore (g.D.Disk.tree l.host.disk.now) (g.D.Disk.held l.host.disk.now) l.word l.split
