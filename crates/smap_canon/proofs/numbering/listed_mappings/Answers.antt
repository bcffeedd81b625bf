use Rattle.std.proofs.Common.{◌+◌, take, sym, subst}
use Rattle.smap_mappings.specs.Feeding.{Encodes}
use Rattle.smap_mappings.specs.Text.{IsEncodable}
use Rattle.smap_mappings.proofs.EncodingLemmas.{encodable-take}
use Rattle.smap_record.proofs.ListLemmas.{take_next}
use Rattle.smap_canon.proofs.numbering.listed_mappings.Goals as goal

pub loop-i-preserved : goal.loop-i-preserved
loop-i-preserved c =
    let tokens = c.args.map.now.listing.tokens in
    let next = take_next tokens c.loop-i.i c.listed_token.result c.listed_token.ensures in
    subst (Encodes c.push.new.self) (sym next)
    (c.in_ok-push.ensures (take c.loop-i.i tokens) c.loop-i.invariant (subst IsEncodable next
    (encodable-take tokens (c.loop-i.i + 1) c.token_count-i-end.ensures.listing.encodable)))
