use Rattle.std.proofs.Common.{◌∙◌, ◌++◌, List, None, ap, arith, false, length, map, subst, sym}
use Rattle.std.proofs.lemmas.Result.{IfOk-weaker}
use Rattle.smap_record.specs.Record.{Entry, distinct, record_of, same_entry}
use Rattle.smap_compose.specs.Composing.{under}
use Rattle.smap_compose.specs.Following.{AreOf, texts_of}
use Rattle.smap_compose.specs.Thinning.{thin_after}
use Rattle.smap_compose.proofs.JoiningLemmas.{falls_in, is_listing_of}
use Rattle.smap_compose.proofs.SpareLemmas.{few_sources, once, own_sources, record_is, thin_falls}
use Rattle.smap_compose.proofs.thinning.thin.Goals as goal

pub map_of-requires : goal.map_of-requires
map_of-requires c =
    let m = c.args.map.now in
    let sources = c.in_ok-sources.sources in
    let same = own_sources sources (record_of m).sources (c.in_ok-sources.ensures
    ∙ ap (λ (es : List Entry). es ++ map (under false) (record_of m).sources) c.new.ensures) in
    let joined = c.in_ok-joined.joined in
    let ms = (record_of m).mappings in
    is_listing_of (thin_after None ms) sources (texts_of joined.names.keys) joined.tokens.items
    (thin_falls ms (falls_in m.listing c.token_count.ensures.listing))
    (subst (λ (es : List Entry). AreOf es (thin_after None ms) (texts_of joined.names.keys)
    joined.tokens.items) (sym same) c.in_ok-joined.ensures.joins)
    (let few = few_sources m.listing c.token_count.ensures.listing in omega (arith, few, ap length same))
    c.in_ok-joined.ensures.few

pub returns : goal.returns
returns c =
    let m = c.args.map.now in
    let sources = c.in_ok-sources.sources in
    let same = own_sources sources (record_of m).sources (c.in_ok-sources.ensures
    ∙ ap (λ (es : List Entry). es ++ map (under false) (record_of m).sources) c.new.ensures) in
    let joined = c.in_ok-joined.joined in
    let ms = (record_of m).mappings in
    IfOk-weaker c.map_of.result _ _ (λ r h. ap record_of h
    ∙ record_is m.labels sources (record_of m).sources (texts_of joined.names.keys) joined.tokens.items
    (thin_after None ms) (ap (distinct same_entry) same ∙ once m.listing)
    (subst (λ (es : List Entry). AreOf es (thin_after None ms) (texts_of joined.names.keys)
    joined.tokens.items) (sym same) c.in_ok-joined.ensures.joins)) c.map_of.ensures
