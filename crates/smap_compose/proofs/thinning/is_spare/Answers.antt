use Rattle.std.proofs.Common.{◌≡◌, ◌∙◌, Option, Some, slice_get, subst, sym}
use Rattle.std.specs.Prelude.{IfSome, option_and_then}
use Rattle.smap_record.specs.declared.view.OriginalView.{OriginalView}
use Rattle.smap_record.specs.Record.{record_of, same_entry}
use Rattle.smap_record.specs.Views.{entry_of_view}
use Rattle.smap_record.proofs.OnceLemmas.{distinct-IsDistinct}
use Rattle.smap_compose.proofs.SpareLemmas.{spare_at}
use Rattle.smap_compose.proofs.thinning.is_spare.Goals as goal

pub returns-in-Some-Some : goal.returns-in-Some-Some
returns-in-Some-Some c = λ m at.
    let ms = (record_of c.args.map.now).mappings in
    let sources = (record_of c.args.map.now).sources in
    let number = subst (λ (x : Option OriginalView). IfSome x (λ p.
    slice_get sources p.source_number ≡ Some (entry_of_view p.source)))
    c.in-Some-Some.is-1 c.token-token.ensures.number in
    let free = sym (c.is_overtaken.ensures m at) ∙ c.if-is_overtaken.false in
    let same = c.is_same.ensures sources (distinct-IsDistinct same_entry c.args.map.now.listing.sources)
    c.in-Some-Some.ensures.number number in
    spare_at ms (option_and_then (slice_get ms) c.args.last) c.args.i m c.token-token.result
    c.in-Some-Some.before c.in-Some-Some.original c.is_same.result at c.token-token.ensures.mapping
    c.in-Some-Some.is-1 c.in-Some-Some.ensures.origin free same
