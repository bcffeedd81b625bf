use Rattle.std.proofs.Common.{◌≡◌, ◌∙◌, Some, slice_get, sym, refl}
use Rattle.std.proofs.lemmas.Option.{slice_get-map}
use Rattle.smap_record.specs.Record.{record_of, mapping_of}
use Rattle.smap_view_page.proofs.ReachLemmas.{stops}
use Rattle.smap_view_page.proofs.measuring.advanced.Goals as goal

pub returns-then-is_after-clause-found : goal.returns-then-is_after-clause-found
returns-then-is_after-clause-found c =
    let m = c.args.map.now in
    let i = c.loop-number.number in
    let t = mapping_of m.listing c.listed_token-token.result in
    let at : slice_get (record_of m).mappings i ≡ Some t =
    rw (slice_get-map (mapping_of m.listing) m.listing.tokens i, c.listed_token-token.ensures) refl in
    rw (← c.loop-number.invariant.line, ← c.loop-number.invariant.column)
    (stops m c.loop-number.cursor i t c.token_count-number-end.ensures.listing c.loop-number.invariant.next at
    (sym c.is_after.ensures ∙ c.if-is_after.true) c.loop-number.invariant.reached)
