use Rattle.std.proofs.Common.{◌∙◌, [], ◌∷◌, ◌++◌, Bool, List, ℕ, ap, arith, false, length, map, sym}
use Rattle.std.specs.Prelude.{slice_index_or}
use Rattle.std.specs.List.{range_with_len}
use Rattle.std.proofs.lemmas.List.FromFn.{map-range_with_len_more}
use Rattle.smap_record.specs.Record.{record_of}
use Rattle.smap_record.specs.Views.{entry_of_view}
use Rattle.smap_compose.specs.Kept.{number_of}
use Rattle.smap_compose.proofs.UsingLemmas.{kept_more, marked_at}
use Rattle.smap_compose.proofs.using.kept_sources.Goals as goal

pub loop-i-preserved : goal.loop-i-preserved
loop-i-preserved c =
    let r = record_of c.args.map.now in
    let i = c.loop-i.i in
    let e = entry_of_view c.source.result in
    record {
      sources = c.in_ok-sources.ensures
          ∙ kept_more r i e (slice_index_or c.args.used.now i false) c.loop-i.sources
          (ap (λ (bs : List Bool). slice_index_or bs i false) c.requires
          ∙ marked_at r r.sources i e false c.source.ensures) c.source.ensures c.loop-i.invariant.sources;
      numbers = c.in_ok-push.ensures.items
          ∙ ap (λ (xs : List ℕ). xs ++ c.listed_count.result ∷ []) c.loop-i.invariant.numbers
          ∙ ap (λ n. map (number_of r) (range_with_len 0 i) ++ n ∷ [])
          (c.listed_count.ensures ∙ ap length c.loop-i.invariant.sources)
          ∙ sym (map-range_with_len_more (number_of r) 0 i i (omega arith));
    }
