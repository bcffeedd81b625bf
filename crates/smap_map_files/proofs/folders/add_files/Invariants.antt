use Rattle.std.proofs.Common.{◌≡◌, drop, map}
use Rattle.smap_map_choice.specs.Places.{below}
use Rattle.smap_map_files.specs.Lists.{lists_of, texts, with_files}
use Rattle.smap_map_files.proofs.folders.add_files.Given as goal

abbrev pub invariant-loop-i : goal.invariant-loop-i
invariant-loop-i l = with_files l.number (map (below l.path) (drop l.i (texts l.names))) (lists_of l.wanted)
    ≡ with_files l.number (map (below l.path) (texts l.names)) (lists_of l.fn.wanted)
