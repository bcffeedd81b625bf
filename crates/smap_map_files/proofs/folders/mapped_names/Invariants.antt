use Rattle.smap_map_files.specs.Lists.{texts}
use Rattle.smap_map_files.proofs.GivenLemmas.{AreMappedUpTo}
use Rattle.smap_map_files.proofs.folders.mapped_names.Given as goal

abbrev pub invariant-loop-i : goal.invariant-loop-i
invariant-loop-i l = AreMappedUpTo (texts l.names) l.i l.mapped.keys
