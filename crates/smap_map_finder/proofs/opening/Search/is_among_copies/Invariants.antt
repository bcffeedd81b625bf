use Rattle.std.proofs.Common.{map}
use Rattle.smap_map_finder.specs.Choice.{AreWithoutCopies}
use Rattle.smap_map_finder.specs.ChosenView.{IsOver}
use Rattle.smap_map_finder.proofs.opening.Search.is_among_copies.Given as goal

abbrev pub invariant-loop : goal.invariant-loop
invariant-loop g l = AreWithoutCopies (g.D.Disk.held l.self.host.now.disk.now) l.self.wanted.now l.name
    l.file (map (λ f. f.now) l.left.items)
    × IsOver (g.D.Disk.held l.self.host.now.disk.now) l.self.wanted.now l.opener
