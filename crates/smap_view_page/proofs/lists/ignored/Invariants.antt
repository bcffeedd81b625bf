use Rattle.std.proofs.Common.{◌≡◌, map, filter}
use Rattle.std.specs.List.{range_with_len}
use Rattle.serde_json.specs.View.{view}
use Rattle.smap_record.specs.Record.{record_of}
use Rattle.smap_view_page.specs.Trees.{is_ignored, whole_number}
use Rattle.smap_view_page.proofs.lists.ignored.Given as goal

abbrev pub invariant-loop-i : goal.invariant-loop-i
invariant-loop-i l = map view l.values.items
    ≡ map whole_number (filter (is_ignored (record_of l.map).sources) (range_with_len 0 l.i))
