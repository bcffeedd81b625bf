use Rattle.std.proofs.Common.{◌∙◌, List, ap}
use Rattle.std.proofs.lemmas.Result.{IfOk-weaker}
use Rattle.smap_record.specs.Record.{Entry, distinct, record_of, same_entry}
use Rattle.smap_compose.specs.Following.{texts_of}
use Rattle.smap_compose.specs.Kept.{kept}
use Rattle.smap_compose.proofs.JoiningLemmas.{falls_in, is_listing_of}
use Rattle.smap_compose.proofs.SpareLemmas.{once, record_is}
use Rattle.smap_compose.proofs.UsingLemmas.{few_kept, kept_once}
use Rattle.smap_compose.proofs.using.only_used.Goals as goal

pub kept_sources-requires : goal.kept_sources-requires
kept_sources-requires c = c.deref.ensures.value ∙ c.in_ok-used.ensures

pub map_of-requires : goal.map_of-requires
map_of-requires c =
    let m = c.args.map.now in
    let joined = c.in_ok-joined.joined in
    is_listing_of (record_of m).mappings c.in_ok-kept.kept.sources (texts_of joined.names.keys)
    joined.tokens.items (falls_in m.listing c.token_count.ensures.listing) c.in_ok-joined.ensures.joins
    (few_kept m c.in_ok-kept.kept c.token_count.ensures.listing c.in_ok-kept.ensures)
    c.in_ok-joined.ensures.few

pub returns : goal.returns
returns c =
    let m = c.args.map.now in
    let r = record_of m in
    let joined = c.in_ok-joined.joined in
    let sources = c.in_ok-kept.kept.sources in
    let same = c.in_ok-kept.ensures.sources in
    IfOk-weaker c.map_of.result _ _ (λ x h. ap record_of h
    ∙ record_is m.labels sources (kept r r.sources) (texts_of joined.names.keys) joined.tokens.items
    r.mappings (ap (λ (es : List Entry). distinct same_entry es) same ∙ kept_once r (once m.listing))
    c.in_ok-joined.ensures.joins) c.map_of.ensures
