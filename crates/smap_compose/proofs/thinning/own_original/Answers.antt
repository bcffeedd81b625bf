use Rattle.std.proofs.Common.{◌≡◌, Option, Some, slice_get, subst}
use Rattle.std.specs.Prelude.{IfSome}
use Rattle.std.proofs.lemmas.Option.{slice_get_within}
use Rattle.smap_record.specs.declared.view.OriginalView.{OriginalView}
use Rattle.smap_record.specs.Record.{record_of}
use Rattle.smap_record.specs.Views.{entry_of_view}
use Rattle.smap_compose.proofs.FollowingLemmas.{place_of}
use Rattle.smap_compose.proofs.thinning.own_original.Goals as goal

pub returns-clause-within : goal.returns-clause-within
returns-clause-within c =
    let o = c.in_ok-original.original in
    let at = subst (λ (x : Option OriginalView). IfSome x (λ p.
    slice_get (record_of c.args.map.now).sources p.source_number ≡ Some (entry_of_view p.source)))
    c.in_ok-original.was c.token.ensures.number in
    let place = place_of c.args.map.now.listing c.args.i c.token.result o c.token_count.ensures.listing
    c.token.ensures.mapping c.in_ok-original.was in
    record {
      source = slice_get_within (record_of c.args.map.now).sources o.source_number
          (entry_of_view o.source) at;
      line = place.line;
      column = place.column;
    }
