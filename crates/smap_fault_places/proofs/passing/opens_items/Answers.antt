use Rattle.std.proofs.Common.{rules, ◌≡◌, sym, ap, ◌∙◌, subst, arith, ◌<◌, [], ◌∷◌}
use Rattle.json.specs.Lex.{tokens}
use Rattle.json.specs.Token.{begin_array}
use Rattle.smap_fault_places.specs.Contexts.{PassedItems}
use Rattle.smap_fault_places.proofs.PassLemmas.{array-open}
use Rattle.smap_fault_places.proofs.passing.opens_items.Goals as goal

pub returns-in-Ok-pass_count : goal.returns-in-Ok-pass_count
returns-in-Ok-pass_count c =
    let some : 0 < c.args.count = omega (arith, c.if-count-eq0.false) in
    let begun : c.in_ok-reader.reader ≡ begin_array ∷ c.next.new.self = search rules in
    let none : c.pass_count.new.reader ≡ [] = search rules in
    array-open c.args.depth c.args.count c.args.text.now c.next.new.self some
    (ap tokens (sym c.in-Ok.ensures.cases.0) ∙ sym c.in_ok-reader.ensures.ok ∙ begun)
    (subst (λ l. PassedItems c.args.depth c.args.count c.next.new.self l) none c.in-Ok-pass_count.ensures)
