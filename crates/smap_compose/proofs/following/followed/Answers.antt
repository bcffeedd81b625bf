use Rattle.std.proofs.Common.{◌≡◌, ◌∙◌, ◌+◌, ◌≤◌, ◌<◌, Option, ap, arith, length, map, subst, sym}
use Rattle.std.specs.Prelude.{IfSome, option_and_then, option_map, slice_get, slice_index}
use Rattle.std.proofs.lemmas.List.{length-map}
use Rattle.smap_mappings.specs.Position.{POSITIONS}
use Rattle.smap_record.specs.Record.{Record, record_of}
use Rattle.smap_record.specs.Views.{entry_of_view, origin_of_view}
use Rattle.smap_compose.specs.Composing.{under}
use Rattle.smap_compose.specs.Following.{IsListedAt, followed_by, origin_at}
use Rattle.smap_compose.specs.Standing.{HoldsFrom, standing_for}
use Rattle.smap_compose.proofs.FollowingLemmas.{led_to_held, stays_listed}
use Rattle.smap_compose.proofs.following.followed.Goals as goal

pub led_on-requires-clause-start : goal.led_on-requires-clause-start
led_on-requires-clause-start g c =
    let o = c.args.original in
    let start = slice_index c.args.starts.now o.source_number in
    let led = led_to_held g.H.HasMap.held_map c.args.inner.now c.number_of.result _ c.in-Some.k
    c.index-inner-k.result c.map.result.now c.number_of.ensures.map c.in-Some.is c.in-Some.ensures.within
    c.index-inner-k.is c.map.ensures in
    let long = length-map (record_of c.map.result.now).sources (under o.source.ignored) in
    subst (λ (found : Option Record). start + length (standing_for found (entry_of_view o.source)) < POSITIONS
    → start + length (record_of c.map.result.now).sources < POSITIONS)
    (sym led) (λ m. omega (arith, m, long)) c.requires.start

pub returns-in-Some-clause-followed : goal.returns-in-Some-clause-followed
returns-in-Some-clause-followed g c = λ sources holds.
    let o = c.args.original in
    let start = slice_index c.args.starts.now o.source_number in
    let led = led_to_held g.H.HasMap.held_map c.args.inner.now c.number_of.result _ c.in-Some.k
    c.index-inner-k.result c.map.result.now c.number_of.ensures.map c.in-Some.is c.in-Some.ensures.within
    c.index-inner-k.is c.map.ensures in
    subst (λ (found : Option Record). HoldsFrom sources start (standing_for found (entry_of_view o.source))
    → option_map (origin_at sources) c.led_on.result ≡ followed_by found (origin_of_view o))
    (sym led) (λ h. c.led_on.ensures.led sources h) holds

pub returns-in-Some-clause-within : goal.returns-in-Some-clause-within
returns-in-Some-clause-within g c = λ count most.
    let o = c.args.original in
    let start = slice_index c.args.starts.now o.source_number in
    let led = led_to_held g.H.HasMap.held_map c.args.inner.now c.number_of.result _ c.in-Some.k
    c.index-inner-k.result c.map.result.now c.number_of.ensures.map c.in-Some.is c.in-Some.ensures.within
    c.index-inner-k.is c.map.ensures in
    let long = length-map (record_of c.map.result.now).sources (under o.source.ignored) in
    subst (λ (found : Option Record). start + length (standing_for found (entry_of_view o.source)) ≤ count
    → IfSome c.led_on.result (IsListedAt count))
    (sym led) (λ m. c.led_on.ensures.within count (omega (arith, m, long))) most

pub returns-in-None-clause-followed : goal.returns-in-None-clause-followed
returns-in-None-clause-followed g c = λ sources holds.
    let inner = map g.H.HasMap.held_map c.args.inner.now in
    stays_listed sources _ c.args.original _ (sym c.number_of.ensures.map
    ∙ ap (option_and_then (slice_get (map record_of inner))) c.in-None.is) holds
