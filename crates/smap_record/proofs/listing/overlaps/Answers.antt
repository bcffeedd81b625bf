use Rattle.std.proofs.Common.{◌≡◌, ◌∙◌, ◌+◌, ◌-◌, sym, length, get_or, None, arith, rules}
use Rattle.smap_mappings.specs.declared.token.Token.{Token}
use Rattle.smap_mappings.specs.Position.{is_before, position_of}
use Rattle.smap_record.proofs.JoinedLemmas.{last_tells}
use Rattle.smap_record.proofs.listing.overlaps.Goals as goal

abbrev no_token : Token
no_token = record { line = 0; column = 0; original = None }

pub returns : goal.returns
returns c =
    let last = length c.args.tokens.now - 1 in
    let some : length c.args.tokens.now ≡ last + 1 = omega arith in
    let told : c.lt.result ≡ is_before c.args.offset (position_of (get_or c.args.tokens.now last no_token)) =
    search rules in
    told ∙ sym (last_tells c.args.offset c.args.tokens.now last no_token some c.requires)
