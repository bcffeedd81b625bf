use Rattle.std.proofs.Common.{◌≡◌, ◌++◌, Some, take}
use Rattle.smap_system.specs.Tree.{Tree, entries_in}
use Rattle.smap_system.specs.Walking.{AreWanted, files_in, folders_in, has_ending, texts}
use Rattle.smap_system.proofs.walking.State.add_all.Given as goal

abbrev pub invariant-loop-i : goal.invariant-loop-i
invariant-loop-i g l = (AreWanted l.fn.search.endings.now l.fn.self.names.items
    → AreWanted l.search.endings.now l.self.names.items)
    × (texts l.self.folders.items
    ≡ texts l.fn.self.folders.items ++ folders_in l.folder (take l.i (entries_in l.listing)))
    × ((t : Tree) → g.D.Disk.tree l.search.disk.now ≡ Some t → texts l.self.names.items
    ≡ texts l.fn.self.names.items ++ files_in t l.search.root.now (has_ending l.search.endings.now) l.folder
    (take l.i (entries_in l.listing)))
