use Rattle.std.proofs.Common.{rules, ◌≡◌, [], ap, ◌∙◌}
use Rattle.json.specs.Lex.{tokens}
use Rattle.smap_fault_places.proofs.PassLemmas.{alone}
use Rattle.smap_fault_places.proofs.passing.is_text.Goals as goal

pub returns-in-Ok-skip_value : goal.returns-in-Ok-skip_value
returns-in-Ok-skip_value c =
    let same : c.in_ok-reader.reader ≡ tokens c.args.text.now =
    c.in_ok-reader.ensures.ok ∙ ap tokens c.in-Ok.ensures.cases.0 in
    let none : c.skip_value.new.self ≡ [] = search rules in
    alone c.args.depth c.args.text.now c.in_ok-reader.reader c.skip_value.new.self same none
    c.in-Ok-skip_value.ensures.value
