use Rattle.std.proofs.Common.{◌≡◌, ◌++◌, ◌-◌, ◌≤◌, ◌||◌, flat_map, length}
use Rattle.std.specs.Io.{StartsWith}
use Rattle.std.specs.List.{list_any}
use Rattle.smap_trace.specs.Anywhere.{pieces_of}
use Rattle.smap_trace.specs.Cutting.{pieces_from}
use Rattle.smap_trace.specs.Translation.{is_replaced, written_for}
use Rattle.smap_trace.proofs.anywhere.push_pieces.Given as goal

abbrev pub invariant-positions : goal.invariant-positions
invariant-positions g l = record {
  within : l.at ≤ length l.text;
  starts : StartsWith l.out.items l.fn.out.items;
  written : l.out.items ++ flat_map written_for
      (pieces_from l.ignore_query (g.M.Maps.scripts l.maps) l.text l.at)
      ≡ l.fn.out.items ++ flat_map written_for
      (pieces_of l.ignore_query (g.M.Maps.scripts l.maps) l.text);
  replaced : (l.replaced || list_any is_replaced
      (pieces_from l.ignore_query (g.M.Maps.scripts l.maps) l.text l.at))
      ≡ list_any is_replaced (pieces_of l.ignore_query (g.M.Maps.scripts l.maps) l.text);
}

abbrev pub decreases-positions : goal.decreases-positions
decreases-positions g l = length l.text - l.at
