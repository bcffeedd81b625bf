use Rattle.std.proofs.Common.{rules, ◌≡◌, sym, ap, ◌∙◌, ◌-◌, [], ◌∷◌}
use Rattle.std.proofs.Common.{length}
use Rattle.std.proofs.Common.{take, drop, true}
use Rattle.std.proofs.lemmas.List.{take_rest}
use Rattle.std.proofs.lemmas.Bool.{OnTrue_from}
use Rattle.std.specs.List.{list_all, starts_with}
use Rattle.std.specs.Prelude.{nat_eq}
use Rattle.json.specs.Lex.{tokens}
use Rattle.json.specs.Word.{ends_word, is_space}
use Rattle.smap_fault_places.specs.Contexts.{PassesMembers, IsAfterMember}
use Rattle.smap_fault_places.proofs.PartLemmas.{starts-with, first-byte, members-behind, object-behind}
use Rattle.smap_fault_places.proofs.part.closes_object.Goals as goal

pub returns-in-Some : goal.returns-in-Some
returns-in-Some c =
    let text = c.args.text.now in
    let len = c.space_at_start-len.result in
    let rest = take (length text - len) (drop len text) in
    let ended : ends_word text ≡ true = search rules in
    let blank : list_all is_space (take len text) ≡ true = search rules in
    let first : starts_with nat_eq rest (125 ∷ []) ≡ true = search rules in
    let p : PassesMembers c.args.depth c.args.name.now c.in-Some.field-0 (tokens rest) [] = search rules in
    object-behind c.args.depth c.args.name.now text len rest c.in-Some.field-0 ended blank (take_rest
    text len)
    (starts-with 125 rest first) p

pub returns-in-Some-2 : goal.returns-in-Some-2
returns-in-Some-2 c =
    let text = c.args.text.now in
    let len = c.space_at_start-len.result in
    let rest = take (length text - len) (drop len text) in
    let after = c.in-Some-strip_prefix.after.now in
    let ended : ends_word text ≡ true = search rules in
    let blank : list_all is_space (take len text) ≡ true = search rules in
    let cases = c.in-Some-strip_prefix.ensures.cases in
    let p : PassesMembers c.args.depth c.args.name.now c.in-Some-2.some (tokens after) [] = search rules in
    OnTrue_from c.in-Some-2.some (IsAfterMember c.args.depth c.args.name.now text)
    (λ any. members-behind c.args.depth c.args.name.now text len rest after c.in-Some-2.some ended blank
    (take_rest text len)
    (first-byte 44 rest cases.0 ∙ ap (λ l. 44 ∷ l) (sym cases.1)) any p)
