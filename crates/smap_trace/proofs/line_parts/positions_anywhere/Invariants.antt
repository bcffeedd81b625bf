use Rattle.std.proofs.Common.{◌-◌, ◌≤◌, length, map}
use Rattle.smap_trace.specs.LineParts.{part_in}
use Rattle.smap_trace.proofs.LinePartLemmas.{HasParts}
use Rattle.smap_trace.proofs.line_parts.positions_anywhere.Given as goal

abbrev pub invariant-positions : goal.invariant-positions
invariant-positions g l = record {
  within : l.at ≤ length l.text;
  parts : HasParts l.ignore_query (g.M.Maps.scripts l.maps) l.text (map part_in l.positions.items) l.at;
}

abbrev pub decreases-positions : goal.decreases-positions
decreases-positions g l = length l.text - l.at
