use Rattle.std.proofs.Common.{◌≡◌, map, take}
use Rattle.serde_json.specs.View.{view}
use Rattle.smap_record.specs.Record.{record_of}
use Rattle.smap_view_page.specs.Trees.{or_null}
use Rattle.smap_view_page.proofs.lists.contents.Given as goal

abbrev pub invariant-loop-i : goal.invariant-loop-i
invariant-loop-i l =
    map view l.values.items ≡ map (λ e. or_null e.content) (take l.i (record_of l.map).sources)
