use Rattle.std.proofs.Common.{map, take}
use Rattle.smap_map_finder.specs.Choice.{AreChoices}
use Rattle.smap_map_finder.specs.ChosenView.{IsOver}
use Rattle.smap_map_finder.proofs.opening.Search.choose_all.Given as goal

abbrev pub invariant-loop-i : goal.invariant-loop-i
invariant-loop-i g l = AreChoices (g.D.Disk.held l.self.host.now.disk.now) l.self.wanted.now
    (take l.i (map (λ p. p.name.now) l.picks)) l.chosen.items
    × IsOver (g.D.Disk.held l.self.host.now.disk.now) l.self.wanted.now l.opener
