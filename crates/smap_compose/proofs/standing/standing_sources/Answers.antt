use Rattle.std.proofs.Common.{◌∙◌, [], ◌∷◌, ◌++◌, List, ℕ, ap, arith, length, map, sym}
use Rattle.std.specs.List.{range_with_len}
use Rattle.std.proofs.lemmas.List.FromFn.{map-range_with_len_more}
use Rattle.smap_record.specs.Record.{Entry}
use Rattle.smap_record.specs.Views.{entry_of_view}
use Rattle.smap_compose.specs.Numbered.{led_at}
use Rattle.smap_compose.specs.Standing.{standing_for, start_of}
use Rattle.smap_compose.proofs.StandingLemmas.{next_standing}
use Rattle.smap_compose.proofs.standing.standing_sources.Goals as goal

pub loop-i-preserved : goal.loop-i-preserved
loop-i-preserved g c =
    let outer = c.args.outer.now in
    let inner = map g.H.HasMap.held_map c.args.inner.now in
    let leads = c.args.leads.now in
    let i = c.loop-i.i in
    let e = entry_of_view c.source.result in
    record {
      sources = c.in_ok-sources.ensures
          ∙ ap (λ r. c.loop-i.sources ++ standing_for r e) c.led_at.ensures
          ∙ ap (λ (es : List Entry). es ++ standing_for (led_at inner leads i) e) c.loop-i.invariant.sources
          ∙ sym (next_standing outer inner leads i e c.source.ensures);
      starts = c.in_ok-push.ensures.items
          ∙ ap (λ (xs : List ℕ). xs ++ c.listed_count.result ∷ []) c.loop-i.invariant.starts
          ∙ ap (λ n. map (start_of outer inner leads) (range_with_len 0 i) ++ n ∷ [])
          (c.listed_count.ensures ∙ ap length c.loop-i.invariant.sources)
          ∙ sym (map-range_with_len_more (start_of outer inner leads) 0 i i (omega arith));
    }
