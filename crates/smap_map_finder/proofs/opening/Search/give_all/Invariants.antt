use Rattle.std.proofs.Common.{map, take}
use Rattle.std.specs.List.{All}
use Rattle.smap_map_finder.specs.ChosenView.{AreChosen, Grows, IsSettledIn, KeepEnds, choices_of}
use Rattle.smap_map_finder.proofs.opening.Search.give_all.Given as goal

abbrev pub invariant-loop-i : goal.invariant-loop-i
invariant-loop-i g l = record {
  settled : All (λ p. IsSettledIn (g.D.Disk.held l.self.host.now.disk.now) l.self.wanted.now l.in_frames
      (choices_of l.chosen) p.name.now) (take l.i l.picks);
  chosen : AreChosen (g.D.Disk.held l.self.host.now.disk.now) l.self.wanted.now (choices_of l.chosen);
  grows : Grows (choices_of l.initial.chosen) (choices_of l.chosen);
  ends : KeepEnds (g.D.Disk.held l.self.host.now.disk.now) l.self.wanted.now (map (λ p. p.name.now) l.picks)
      (choices_of l.initial.chosen) (choices_of l.chosen);
}
