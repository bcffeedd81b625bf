use Rattle.std.proofs.Common.{◌∙◌, sym, ap}
use Rattle.smap_canon.specs.Numbering.{texts_of, with_name, used_in}
use Rattle.smap_canon.proofs.NumberingLemmas.{texts-insert_key, place-key, numbers-put}
use Rattle.smap_canon.proofs.numbering.use_listed.Goals as goal

pub returns-clause-used : goal.returns-clause-used
returns-clause-used c =
    ap texts_of c.in_ok-number.ensures.keys ∙ texts-insert_key c.args.names.now.used.keys c.name.result
    ∙ ap (λ o. with_name o (used_in c.args.names.now)) (sym c.name.ensures)

pub returns-clause-numbers : goal.returns-clause-numbers
returns-clause-numbers c =
    let keys =
    ap texts_of c.in_ok-number.ensures.keys ∙ texts-insert_key c.args.names.now.used.keys c.name.result in
    let place = c.in_ok-number.ensures.index ∙ place-key c.name.result c.args.names.now.used.keys in
    numbers-put c.args.map.now.listing.names (used_in c.args.names.now) (texts_of c.insert_full.new.self.keys)
    c.args.names.now.numbers.items
    c.args.listed c.in_ok-number.number c.name.result.now c.requires.numbers c.name.ensures keys place
