use Rattle.std.proofs.Common.{◌≡◌, drop}
use Rattle.smap_system.specs.Fixed as spec
use Rattle.smap_system.proofs.fixed.entries_of.Given as goal

abbrev pub invariant-loop-folder : goal.invariant-loop-folder
invariant-loop-folder l = spec.entries_by l.folders l.name ≡ spec.entries_by
    (drop l.folder-index l.folders) l.name
