use Rattle.std.proofs.Common.{◌∙◌, ◌∷◌, ◌++◌, [], List, ap, arith, length, subst, sym, take}
use Rattle.smap_mappings.specs.Text.{IsPlaced}
use Rattle.smap_record.specs.Record.{Mapping, mapping_of, record_of}
use Rattle.smap_record.proofs.ListLemmas.{all_at, take_next}
use Rattle.smap_compose.specs.Following.{AreOf, texts_of}
use Rattle.smap_compose.proofs.JoiningLemmas.{none_joined}
use Rattle.smap_compose.proofs.SpareLemmas.{found_of, own_mapping, small_source}
use Rattle.smap_compose.proofs.UsingLemmas.{few_kept}
use Rattle.smap_compose.proofs.using.kept_mappings.Goals as goal

pub loop-i-init : goal.loop-i-init
loop-i-init c =
    let none = c.in_ok-none.none in
    record {
      are = none_joined c.args.kept.now.sources (texts_of none.names.keys) none.tokens.items
          c.in_ok-none.ensures.0 c.in_ok-none.ensures.1;
      few = omega (arith, ap length c.in_ok-none.ensures.0);
    }

pub with-requires : goal.with-requires
with-requires c = small_source c.kept_original-original.result (length c.args.kept.now.sources)
    (few_kept c.args.map.now c.args.kept.now c.token_count.ensures.listing c.requires)
    c.kept_original-original.ensures.within

pub loop-i-preserved : goal.loop-i-preserved
loop-i-preserved c =
    let l = c.args.map.now.listing in
    let ms = (record_of c.args.map.now).mappings in
    let sources = c.args.kept.now.sources in
    let i = c.loop-i.i in
    let t = c.listed_token-token.result in
    let at = found_of l i t c.listed_token-token.ensures in
    let placed = all_at IsPlaced l.tokens i t c.token_count.ensures.listing.encodable.1
    c.listed_token-token.ensures in
    let few = c.loop-i.invariant.few in
    record {
      are = subst (λ (xs : List Mapping). AreOf sources xs (texts_of c.in-Ok.next.names.keys)
          c.in-Ok.next.tokens.items)
          (ap (λ (x : Mapping). take i ms ++ x ∷ []) (own_mapping sources l t c.kept_original-original.result
          (c.kept_original-original.ensures.same (mapping_of l t) at))
          ∙ sym (take_next ms i (mapping_of l t) at))
          (c.in-Ok.ensures.joins sources (take i ms) c.loop-i.invariant.are (omega (arith, few)) (omega arith)
          (few_kept c.args.map.now c.args.kept.now c.token_count.ensures.listing c.requires)
          c.kept_original-original.ensures.within placed.line placed.column);
      few = let more = c.in-Ok.ensures.few (omega (arith, few)) in omega (arith, more);
    }
