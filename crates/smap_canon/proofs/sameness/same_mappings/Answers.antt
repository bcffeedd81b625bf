use Rattle.std.proofs.Common.{◌∙◌, sym, true≢false}
use Rattle.smap_record.specs.Record.{record_of, same_entry}
use Rattle.smap_record.specs.Views.{mapping_of_view}
use Rattle.smap_record.proofs.OnceLemmas.{distinct-IsDistinct}
use Rattle.smap_canon.proofs.SamenessLemmas.{equal_views, views_equal, same_next, same_place}
use Rattle.smap_canon.proofs.sameness.same_mappings.Goals as goal

pub loop-i-preserved : goal.loop-i-preserved
loop-i-preserved c =
    let a = c.args.a.now in
    let x = c.token.result in
    let y = c.token-in-loop-i.result in
    let y_at = rw (← c.requires) at c.token-in-loop-i.ensures.number in
    same_next (record_of a).mappings (record_of c.args.b.now).mappings c.loop-i.i (mapping_of_view x)
    (mapping_of_view y) c.loop-i.invariant c.token.ensures.mapping c.token-in-loop-i.ensures.mapping
    (equal_views (record_of a).sources (distinct-IsDistinct same_entry a.listing.sources) x y
    c.token.ensures.number y_at (sym c.same_mapping.ensures ∙ c.if-not-same_mapping.false))

pub returns-then-not-same_mapping : goal.returns-then-not-same_mapping
returns-then-not-same_mapping c = (
  λ f. absurd (true≢false (sym f)),
  λ e.
      let a = c.args.a.now in
      let x = c.token.result in
      let y = c.token-in-loop-i.result in
      let y_at = rw (← c.requires) at c.token-in-loop-i.ensures.number in
      let is =
      same_place (record_of a).mappings (record_of c.args.b.now).mappings c.loop-i.i (mapping_of_view x)
      (mapping_of_view y) c.token.ensures.mapping c.token-in-loop-i.ensures.mapping e in
      sym c.if-not-same_mapping.true ∙ c.same_mapping.ensures ∙ views_equal (record_of a).sources
      (distinct-IsDistinct same_entry a.listing.sources) x y c.token.ensures.number y_at is,
)
