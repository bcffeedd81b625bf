use Rattle.std.proofs.Common.{◌≡◌, ◌≤◌}
use Rattle.smap_map_finder.specs.ChosenView.{AreChosen, choices_of}
use Rattle.smap_map_finder.proofs.opening.Search.check_files.Given as goal

abbrev pub invariant-loop-i : goal.invariant-loop-i
invariant-loop-i g l = record {
  chosen : AreChosen (g.D.Disk.held l.self.host.now.disk.now) l.self.wanted.now (choices_of l.chosen);
  worst : l.initial.chosen.worst ≤ l.chosen.worst;
  ends : (choices_of l.chosen).ends ≡ (choices_of l.initial.chosen).ends;
}
