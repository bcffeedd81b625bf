use Rattle.std.proofs.Common.{◌≡◌, map, take}
use Rattle.serde_json.specs.View.{view}
use Rattle.smap_differences.specs.Counts.{rows_of, table_of}
use Rattle.smap_differences.specs.Lists.{texts_of}
use Rattle.smap_differences.proofs.counting.counts_of.Given as goal

abbrev pub invariant-loop-i : goal.invariant-loop-i
invariant-loop-i l = rows_of l.counts.entries ≡ table_of (texts_of (take l.i (map view l.entries)))
