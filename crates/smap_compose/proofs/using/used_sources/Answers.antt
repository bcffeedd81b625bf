use Rattle.std.proofs.Common.{◌≡◌, ◌∙◌, Bool, List, Option, Some, ap, arith, length, map, slice_get}
use Rattle.std.proofs.Common.{subst, sym, take, true}
use Rattle.std.specs.Prelude.{IfSome, option_map, slice_set}
use Rattle.std.proofs.lemmas.List.{length-map}
use Rattle.std.proofs.lemmas.Option.{slice_get_within}
use Rattle.smap_record.specs.declared.view.OriginalView.{OriginalView}
use Rattle.smap_record.specs.Record.{Mapping, record_of, same_entry}
use Rattle.smap_record.specs.Views.{entry_of_view, mapping_of_view, origin_of_view}
use Rattle.smap_record.proofs.ListLemmas.{take_next}
use Rattle.smap_record.proofs.OnceLemmas.{distinct-IsDistinct}
use Rattle.smap_compose.specs.Using.{is_used}
use Rattle.smap_compose.proofs.UsingLemmas.{marked_more, marked_none, marked_still}
use Rattle.smap_compose.proofs.using.used_sources.Goals as goal

pub loop-i-init : goal.loop-i-init
loop-i-init c = c.in_ok-used.ensures
    ∙ marked_none c.source_count.result (record_of c.args.map.now).sources c.source_count.ensures

pub loop-i-preserved-in_default : goal.loop-i-preserved-in_default
loop-i-preserved-in_default c =
    let r = record_of c.args.map.now in
    let i = c.loop-i.i in
    let m = mapping_of_view c.token.result in
    c.loop-i.invariant
    ∙ sym (ap (λ (ms : List Mapping). map (is_used ms) r.sources)
    (take_next r.mappings i m c.token.ensures.mapping)
    ∙ marked_still (take i r.mappings) m r.sources (ap (option_map origin_of_view) c.in_default.is))

pub index_mut-requires : goal.index_mut-requires
index_mut-requires c =
    let r = record_of c.args.map.now in
    let o = c.in-Some.original in
    let at = subst (λ (x : Option OriginalView). IfSome x (λ p.
    slice_get r.sources p.source_number ≡ Some (entry_of_view p.source)))
    c.in-Some.is c.token.ensures.number in
    omega (
      arith,
      slice_get_within r.sources o.source_number (entry_of_view o.source) at,
      ap length c.loop-i.invariant,
      length-map r.sources (is_used (take c.loop-i.i r.mappings)),
    )

pub loop-i-preserved : goal.loop-i-preserved
loop-i-preserved c =
    let r = record_of c.args.map.now in
    let i = c.loop-i.i in
    let m = mapping_of_view c.token.result in
    let o = c.in-Some.original in
    let at = subst (λ (x : Option OriginalView). IfSome x (λ p.
    slice_get r.sources p.source_number ≡ Some (entry_of_view p.source)))
    c.in-Some.is c.token.ensures.number in
    ap (λ (bs : List Bool). slice_set bs o.source_number true) c.loop-i.invariant
    ∙ marked_more (take i r.mappings) m (origin_of_view o) (ap (option_map origin_of_view) c.in-Some.is)
    r.sources o.source_number (distinct-IsDistinct same_entry c.args.map.now.listing.sources) at
    ∙ ap (λ (ms : List Mapping). map (is_used ms) r.sources)
    (sym (take_next r.mappings i m c.token.ensures.mapping))
