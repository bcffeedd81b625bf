use Rattle.std.proofs.Common.{◌≡◌, take}
use Rattle.std.specs.List.{flat_map}
use Rattle.smap_map_files.specs.Positions.{line_of}
use Rattle.smap_map_files.proofs.positions.lines_of.Given as goal

abbrev pub invariant-loop-word : goal.invariant-loop-word
invariant-loop-word l = l.lines.items ≡ flat_map (λ w. line_of l.script w.now) (take l.word-index l.words)
