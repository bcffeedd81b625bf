use Rattle.std.proofs.Common.{rules, ◌≡◌, ◌-◌, sym, ap, ◌∙◌, length, take, drop, true}
use Rattle.std.proofs.lemmas.List.{take_rest}
use Rattle.std.specs.List.{list_all}
use Rattle.json.specs.Json.{Json}
use Rattle.json.specs.Word.{is_space}
use Rattle.smap_fault_places.specs.Contexts.{IsText}
use Rattle.smap_fault_places.specs.Ranges.{bytes_in}
use Rattle.smap_fault_places.proofs.PartLemmas.{part-root}
use Rattle.smap_fault_places.proofs.place.root_place.Goals as goal

pub returns-then-branch : goal.returns-then-branch
returns-then-branch c =
    let text = c.args.text.now in
    let r = c.root_range-range.result in
    let first : list_all is_space (take r.start text) ≡ true = search rules in
    let last : list_all is_space (take (length text - r.end) (drop r.end text)) ≡ true = search rules in
    let inner : (j : Json) × IsText 127 (bytes_in r text) j = search rules in
    part-root 127 text r c.root_range-range.ensures first (ap (list_all is_space) (sym (take_rest text
    r.end)) ∙ last) inner
