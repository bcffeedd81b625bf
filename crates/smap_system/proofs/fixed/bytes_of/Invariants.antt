use Rattle.std.proofs.Common.{◌≡◌, drop}
use Rattle.smap_system.specs.Fixed as spec
use Rattle.smap_system.proofs.fixed.bytes_of.Given as goal

abbrev pub invariant-loop-file : goal.invariant-loop-file
invariant-loop-file l = spec.held_by l.files l.name ≡ spec.held_by (drop l.file-index l.files) l.name
