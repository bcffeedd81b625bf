use Rattle.std.proofs.Common.{◌≡◌, ◌++◌, ◌∷◌, ◌+◌, [], get_or, take}
use Rattle.std.proofs.lemmas.List.{take_more}
use Rattle.smap_mappings.specs.declared.token.Token.{Token}
use Rattle.smap_mappings.proofs.ArrangementLemmas.{no_token}
use Rattle.smap_mappings.proofs.EncodingLemmas.{encodable-take}
use Rattle.smap_mappings.proofs.encoding.encode.Goals as goal

pub loop-token-preserved : goal.loop-token-preserved
loop-token-preserved c =
    let i = c.loop-token.token-index in
    let ts = c.args.tokens.now in
    let t : Token = get_or ts i no_token in
    let more : take (i + 1) ts ≡ take i ts ++ t ∷ [] = take_more ts i no_token c.loop-token-test.true in
    rw more (c.in_ok-push.ensures (take i ts) c.loop-token.invariant
    (rw (← more) (encodable-take ts (i + 1) c.requires)))
