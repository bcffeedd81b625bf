use Rattle.std.proofs.Common.{map, append-nil, ◌∷◌, [], refl}
use Rattle.std.proofs.lemmas.List.{map-append}
use Rattle.serde_json.specs.View.{view}
use Rattle.smap_record.specs.Record.{record_of}
use Rattle.smap_record.specs.Views.{entry_of_view}
use Rattle.smap_view_page.proofs.TreeLemmas.{next_number}
use Rattle.smap_view_page.proofs.lists.ignored.Goals as goal
use Rattle.smap_view_page.proofs.lists.ignored.Goals.{then-source+in_ok-push, else-source}

pub loop-i-preserved : goal.loop-i-preserved
loop-i-preserved c =
    let done = c.loop-i.values.items in
    next_number (record_of c.args.map.now).sources c.loop-i.i (entry_of_view c.source.result) done
    c.if-source.values.items c.source.ensures c.loop-i.invariant
    (elim c.if-source.branch [
      | then-source+in_ok-push w ↦ rw (
        w.values-is,
        w.in_ok-push.ensures.items,
        map-append view done (w.from.result ∷ []),
        w.if-source.true,
        w.from.ensures,
      ) refl
      | else-source w ↦ rw (w.values-is, w.if-source.false, append-nil (map view done)) refl
    ])
