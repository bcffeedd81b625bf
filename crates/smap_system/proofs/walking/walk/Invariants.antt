use Rattle.std.proofs.Common.{◌≡◌, Some}
use Rattle.smap_system.specs.Tree.{Tree}
use Rattle.smap_system.specs.Walking.{AreWanted, has_ending, texts}
use Rattle.smap_system.proofs.ListingLemmas.{Walked}
use Rattle.smap_system.proofs.walking.walk.Given as goal

abbrev pub invariant-loop-number : goal.invariant-loop-number
invariant-loop-number g l = AreWanted l.endings l.state.names.items
    × ((t : Tree) → g.D.Disk.tree l.disk ≡ Some t
    → Walked t l.folder (has_ending l.endings) l.number (texts l.state.folders.items)
    (texts l.state.names.items))
