use Rattle.std.proofs.Common.{map, take}
use Rattle.smap_map_finder.specs.Choice.{AreBest, AreLinks}
use Rattle.smap_map_finder.proofs.opening.Search.settle_each.Given as goal

abbrev pub invariant-loop-i : goal.invariant-loop-i
invariant-loop-i g l = AreBest (g.D.Disk.held l.self.host.now.disk.now) l.self.wanted.now
    (take l.i (map (λ n. n.now) l.names)) l.settled.items
    × AreLinks (g.D.Disk.held l.self.host.now.disk.now) l.self.wanted.now l.links.named.entries
