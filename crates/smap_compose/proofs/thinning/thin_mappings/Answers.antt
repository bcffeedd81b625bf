use Rattle.std.proofs.Common.{◌∙◌, [], ◌∷◌, ◌++◌, List, ap, arith, length, refl, subst, sym}
use Rattle.std.specs.Prelude.{option_and_then, slice_get}
use Rattle.smap_mappings.specs.Text.{IsPlaced}
use Rattle.smap_record.specs.Record.{Mapping, mapping_of, record_of}
use Rattle.smap_record.proofs.ListLemmas.{all_at}
use Rattle.smap_compose.specs.Following.{AreOf, texts_of}
use Rattle.std.proofs.lemmas.Option.{slice_get_within}
use Rattle.smap_compose.proofs.JoiningLemmas.{none_joined}
use Rattle.smap_compose.proofs.SpareLemmas.{few_sources, found_of, left_out, own_mapping, small_source, stays}
use Rattle.smap_compose.proofs.thinning.thin_mappings.Goals as goal

pub loop-i-init : goal.loop-i-init
loop-i-init c =
    let none = c.in_ok-none.none in
    record {
      done = [];
      are = none_joined (record_of c.args.map.now).sources (texts_of none.names.keys) none.tokens.items
          c.in_ok-none.ensures.0 c.in_ok-none.ensures.1;
      left = refl;
      last = tt;
      few = omega (arith, ap length c.in_ok-none.ensures.0);
    }

pub loop-i-preserved-then-is_spare : goal.loop-i-preserved-then-is_spare
loop-i-preserved-then-is_spare c =
    let l = c.args.map.now.listing in
    let ms = (record_of c.args.map.now).mappings in
    let i = c.loop-i.i in
    let last = option_and_then (slice_get ms) c.loop-i.last in
    let t = c.listed_token-token.result in
    let at = found_of l i t c.listed_token-token.ensures in
    let spare = sym (c.is_spare.ensures (mapping_of l t) at) ∙ c.if-is_spare.true in
    record {
      done = c.loop-i.invariant.done;
      are = c.loop-i.invariant.are;
      left = ap (λ (xs : List Mapping). c.loop-i.invariant.done ++ xs)
          (sym (left_out ms last i (mapping_of l t) at spare))
          ∙ c.loop-i.invariant.left;
      last = c.loop-i.invariant.last;
      few = c.loop-i.invariant.few;
    }

pub with-requires : goal.with-requires
with-requires c = small_source c.own_original.result (length (record_of c.args.map.now).sources)
    (few_sources c.args.map.now.listing c.token_count.ensures.listing) c.own_original.ensures.within

pub loop-i-preserved : goal.loop-i-preserved
loop-i-preserved c =
    let l = c.args.map.now.listing in
    let ms = (record_of c.args.map.now).mappings in
    let sources = (record_of c.args.map.now).sources in
    let i = c.loop-i.i in
    let inv = c.loop-i.invariant in
    let last = option_and_then (slice_get ms) c.loop-i.last in
    let t = c.listed_token-token.result in
    let m = mapping_of l t in
    let at = found_of l i t c.listed_token-token.ensures in
    let not_spare = sym (c.is_spare.ensures m at) ∙ c.if-is_spare.false in
    let placed = all_at IsPlaced l.tokens i t c.token_count.ensures.listing.encodable.1
    c.listed_token-token.ensures in
    record {
      done = inv.done ++ m ∷ [];
      are = subst (λ (x : Mapping). AreOf sources (inv.done ++ x ∷ []) (texts_of c.in-Ok.next.names.keys)
          c.in-Ok.next.tokens.items)
          (own_mapping sources l t c.own_original.result (c.own_original.ensures.same m at))
          (c.in-Ok.ensures.joins sources inv.done inv.are
          (let few = inv.few in omega (arith, few)) (omega arith)
          (few_sources l c.token_count.ensures.listing) c.own_original.ensures.within placed.line
          placed.column);
      left = rw at (stays ms last i m at inv.done not_spare ∙ inv.left);
      last = slice_get_within ms i m at;
      few = let more = c.in-Ok.ensures.few (let few = inv.few in omega (arith, few)) in omega (arith, more);
    }
