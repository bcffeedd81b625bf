use Rattle.std.proofs.Common.{◌≡◌, ◌∙◌, [], Bor, None, Option, List, ℕ, ap, option_map, sym, unwrap_or, rules}
use Rattle.std.specs.List.{slice_get}
use Rattle.std.proofs.lemmas.Option.{slice_get-map, slice_get_past, slice_get_read}
use Rattle.smap_map_finder.proofs.ChoiceLemmas.{slice_at}
use Rattle.smap_map_finder.proofs.picking.name_at.Goals as goal

pub returns-in-Some : goal.returns-in-Some
returns-in-Some c =
    sym (ap (λ (o : Option (List ℕ)). unwrap_or o [])
    (slice_at c.args.files.now c.args.number c.in-Some.file.now (search (rules, slice_get_read))))

pub returns-in-None : goal.returns-in-None
returns-in-None c =
    let files = c.args.files.now in
    let now = λ (f : Bor (List ℕ)). f.now in
    let none : slice_get files c.args.number ≡ None = slice_get_past files c.args.number (search rules) in
    sym (ap (λ (o : Option (List ℕ)). unwrap_or o [])
    (slice_get-map now files c.args.number ∙ ap (option_map now) none))
