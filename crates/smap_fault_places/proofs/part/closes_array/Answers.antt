use Rattle.std.proofs.Common.{rules, ◌≡◌, sym, ap, ◌∙◌, ◌-◌, [], ◌∷◌}
use Rattle.std.proofs.Common.{length}
use Rattle.std.proofs.Common.{take, drop, true}
use Rattle.std.proofs.lemmas.List.{take_rest}
use Rattle.std.proofs.lemmas.Bool.{OnTrue_from}
use Rattle.std.specs.List.{list_all, starts_with}
use Rattle.std.specs.Prelude.{nat_eq}
use Rattle.json.specs.Lex.{tokens}
use Rattle.json.specs.Word.{ends_word, is_space}
use Rattle.smap_fault_places.specs.Contexts.{PassesItems, IsAfterItem}
use Rattle.smap_fault_places.proofs.PartLemmas.{starts-with, first-byte, items-behind, array-behind}
use Rattle.smap_fault_places.proofs.part.closes_array.Goals as goal

pub returns-in-Some : goal.returns-in-Some
returns-in-Some c =
    let text = c.args.text.now in
    let len = c.space_at_start-len.result in
    let rest = take (length text - len) (drop len text) in
    let ended : ends_word text ≡ true = search rules in
    let blank : list_all is_space (take len text) ≡ true = search rules in
    let first : starts_with nat_eq rest (93 ∷ []) ≡ true = search rules in
    let p : PassesItems c.args.depth c.in-Some.field-0 (tokens rest) [] = search rules in
    array-behind c.args.depth text len rest c.in-Some.field-0 ended blank (take_rest text len)
    (starts-with 93 rest first) p

pub returns-in-Some-2 : goal.returns-in-Some-2
returns-in-Some-2 c =
    let text = c.args.text.now in
    let len = c.space_at_start-len.result in
    let rest = take (length text - len) (drop len text) in
    let after = c.in-Some-strip_prefix.after.now in
    let ended : ends_word text ≡ true = search rules in
    let blank : list_all is_space (take len text) ≡ true = search rules in
    let cases = c.in-Some-strip_prefix.ensures.cases in
    let p : PassesItems c.args.depth c.in-Some-2.some (tokens after) [] = search rules in
    OnTrue_from c.in-Some-2.some (IsAfterItem c.args.depth text)
    (λ any. items-behind c.args.depth text len rest after c.in-Some-2.some ended blank (take_rest text len)
    (first-byte 44 rest cases.0 ∙ ap (λ l. 44 ∷ l) (sym cases.1)) any p)
