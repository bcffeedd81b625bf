use Rattle.std.proofs.Common.{◌∙◌, List, ap, arith, length, map, subst, sym}
use Rattle.std.specs.Prelude.{option_map}
use Rattle.std.proofs.lemmas.Option.{slice_get-map}
use Rattle.smap_mappings.specs.Text.{IsPlaced}
use Rattle.smap_record.specs.Record.{Mapping, mapping_of}
use Rattle.smap_record.proofs.ListLemmas.{all_at}
use Rattle.smap_compose.specs.Following.{AreOf, texts_of}
use Rattle.smap_compose.specs.Numbered.{maps_of}
use Rattle.smap_compose.proofs.JoiningLemmas.{next_mapping, none_joined, too_many}
use Rattle.smap_compose.proofs.joining.join_by.Goals as goal

pub loop-i-init : goal.loop-i-init
loop-i-init g c =
    let none = c.in_ok-none.none in
    record {
      are = none_joined c.args.standing.now.sources (texts_of none.names.keys) none.tokens.items
          c.in_ok-none.ensures.0 c.in_ok-none.ensures.1;
      few = omega (arith, ap length c.in_ok-none.ensures.0);
    }

pub returns-in-Err-clause-refused : goal.returns-in-Err-clause-refused
returns-in-Err-clause-refused g c = λ is.
    let l = c.args.outer.now.listing in
    let t = c.listed_token-token.result in
    let led = c.original_of-original.ensures.followed (mapping_of l t)
    (slice_get-map (mapping_of l) l.tokens c.loop-i.i
    ∙ ap (option_map (mapping_of l)) c.listed_token-token.ensures)
    in
    too_many l (maps_of c.args.outer.now (map g.H.HasMap.held_map c.args.inner.now) c.args.leads.now)
    c.args.standing.now.sources
    c.loop-i.i t c.original_of-original.result c.listed_token-token.ensures led
    (texts_of c.loop-i.joined.names.keys) c.args.items c.loop-i.invariant.are.used
    (c.in-Err.ensures.refused is)

pub loop-i-preserved : goal.loop-i-preserved
loop-i-preserved g c =
    let l = c.args.outer.now.listing in
    let maps = maps_of c.args.outer.now (map g.H.HasMap.held_map c.args.inner.now) c.args.leads.now in
    let sources = c.args.standing.now.sources in
    let i = c.loop-i.i in
    let t = c.listed_token-token.result in
    let o = c.original_of-original.result in
    let at = c.listed_token-token.ensures in
    let led = c.original_of-original.ensures.followed (mapping_of l t)
    (slice_get-map (mapping_of l) l.tokens i ∙ ap (option_map (mapping_of l)) at) in
    let placed = all_at IsPlaced l.tokens i t c.token_count-i-end.ensures.listing.encodable.1 at in
    record {
      are = subst (λ (ms : List Mapping). AreOf sources ms (texts_of c.in-Ok.next.names.keys)
          c.in-Ok.next.tokens.items)
          (sym (next_mapping l maps sources i t o at led))
          (c.in-Ok.ensures.joins sources _ c.loop-i.invariant.are c.loop-i.invariant.few c.requires.items
          c.requires.few c.original_of-original.ensures.within placed.line placed.column);
      few = c.in-Ok.ensures.few c.loop-i.invariant.few;
    }
