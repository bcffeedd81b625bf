use Rattle.std.proofs.Common.{◌≡◌, ◌∙◌, Some, slice_get, string_bytes, refl}
use Rattle.std.proofs.lemmas.Option.{slice_get-map}
use Rattle.smap_view_page.specs.Places.{place, places}
use Rattle.smap_view_page.proofs.PlaceLemmas.{one_more}
use Rattle.smap_view_page.proofs.mappings.mappings_text.Goals as goal

pub loop-number-preserved : goal.loop-number-preserved
loop-number-preserved c =
    let m = c.args.map.now in
    let i = c.loop-number.number in
    let p = place m c.listed_token.result in
    let there : slice_get (places m) i ≡ Some p =
    rw (slice_get-map (place m) m.listing.tokens i, c.listed_token.ensures) refl in
    rw (c.in_ok-last.ensures.text, c.in_ok-last.ensures.after, c.place-place.ensures)
    (one_more (string_bytes c.loop-number.text) c.loop-number.last (places m) i p there
    ∙ c.loop-number.invariant)
