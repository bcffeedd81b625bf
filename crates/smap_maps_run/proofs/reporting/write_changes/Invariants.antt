use Rattle.std.proofs.Common.{take}
use Rattle.std.specs.Io.KnownBytes.{Appends}
use Rattle.smap_system.specs.Watched.{inner_of}
use Rattle.smap_maps_run.specs.Runs.{changes_text}
use Rattle.smap_maps_run.proofs.reporting.write_changes.Given as goal

abbrev pub invariant-loop-change : goal.invariant-loop-change
invariant-loop-change g l = Appends (g.W.Write.contents (inner_of l.initial.writer))
    (g.W.Write.contents (inner_of l.writer)) (changes_text (take l.change-index l.changes))
