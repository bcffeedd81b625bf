use Rattle.std.proofs.Common.{◌≡◌, ◌∙◌, Option, Some, ap, arith, length, map, slice_get, subst, sym}
use Rattle.std.specs.Prelude.{IfSome, option_and_then}
use Rattle.smap_record.specs.declared.view.OriginalView.{OriginalView}
use Rattle.smap_record.specs.Record.{Origin, Record, record_of}
use Rattle.smap_record.specs.Views.{entry_of_view, origin_of_view}
use Rattle.smap_compose.specs.Composing.{followed}
use Rattle.smap_compose.specs.Following.{followed_by}
use Rattle.smap_compose.specs.Numbered.{maps_of}
use Rattle.smap_compose.proofs.FollowingLemmas.{origin_at_token, place_of}
use Rattle.smap_compose.proofs.StandingLemmas.{holds_from, map_at, within_sources, within_starts}
use Rattle.smap_compose.proofs.joining.original_of.Goals as goal

pub followed-requires-clause-within : goal.followed-requires-clause-within
followed-requires-clause-within g c =
    let outer = c.args.outer.now in
    let o = c.in_ok-original.original in
    let at = subst (λ (x : Option OriginalView). IfSome x (λ p.
    slice_get (record_of outer).sources p.source_number ≡ Some (entry_of_view p.source)))
    c.in_ok-original.was c.token.ensures.number in
    within_starts outer (map g.H.HasMap.held_map c.args.inner.now) c.args.leads.now c.args.standing.now
    c.deref.result.now
    c.requires.standing c.deref.ensures.value o.source_number (entry_of_view o.source) at

pub followed-requires-clause-start : goal.followed-requires-clause-start
followed-requires-clause-start g c =
    let outer = c.args.outer.now in
    let o = c.in_ok-original.original in
    let at = subst (λ (x : Option OriginalView). IfSome x (λ p.
    slice_get (record_of outer).sources p.source_number ≡ Some (entry_of_view p.source)))
    c.in_ok-original.was c.token.ensures.number in
    let within = within_sources outer (map g.H.HasMap.held_map c.args.inner.now) c.args.leads.now
    c.args.standing.now c.deref.result.now
    c.requires.standing c.deref.ensures.value o.source_number (entry_of_view o.source) at in
    omega (arith, within, c.requires.few)

pub followed-requires-clause-place : goal.followed-requires-clause-place
followed-requires-clause-place g c = place_of c.args.outer.now.listing c.args.i c.token.result
    c.in_ok-original.original c.token_count.ensures.listing c.token.ensures.mapping c.in_ok-original.was

pub returns-clause-followed : goal.returns-clause-followed
returns-clause-followed g c = λ m found.
    let outer = c.args.outer.now in
    let inner = map g.H.HasMap.held_map c.args.inner.now in
    let leads = c.args.leads.now in
    let standing = c.args.standing.now in
    let o = c.in_ok-original.original in
    let e = entry_of_view o.source in
    let at = subst (λ (x : Option OriginalView). IfSome x (λ p.
    slice_get (record_of outer).sources p.source_number ≡ Some (entry_of_view p.source)))
    c.in_ok-original.was c.token.ensures.number in
    let holds = holds_from outer inner leads standing c.deref.result.now
    c.requires.standing c.deref.ensures.value o.source_number e at in
    let origin = origin_at_token (record_of outer).mappings c.args.i c.token.result o m
    c.token.ensures.mapping c.in_ok-original.was found in
    c.followed.ensures.followed standing.sources holds
    ∙ ap (λ (r : Option Record). followed_by r (origin_of_view o))
    (sym (map_at outer inner leads o.source_number e at))
    ∙ ap (λ (p : Option Origin). option_and_then (followed (maps_of outer inner leads)) p) (sym origin)

pub returns-clause-within : goal.returns-clause-within
returns-clause-within g c =
    let outer = c.args.outer.now in
    let o = c.in_ok-original.original in
    let at = subst (λ (x : Option OriginalView). IfSome x (λ p.
    slice_get (record_of outer).sources p.source_number ≡ Some (entry_of_view p.source)))
    c.in_ok-original.was c.token.ensures.number in
    c.followed.ensures.within (length c.args.standing.now.sources)
    (within_sources outer (map g.H.HasMap.held_map c.args.inner.now) c.args.leads.now c.args.standing.now
    c.deref.result.now
    c.requires.standing c.deref.ensures.value o.source_number (entry_of_view o.source) at)
