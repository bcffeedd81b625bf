use Rattle.std.proofs.Common.{◌≡◌, ◌∙◌, ◌<◌, ◌^◌, ℕ, List, None, Some, ap, arith, length, rules, sym}
use Rattle.std.proofs.lemmas.List.{length-map}
use denote.Ref.{Bor}
use Rattle.smap_record.specs.Record.{ReadMap, record_of}
use Rattle.smap_compose.specs.Chain.{Link, chained, links_of, unled}
use Rattle.smap_tool.specs.Links.{chain_of}
use Rattle.smap_tool.proofs.LinkLemmas.{composed_is, is_link}
use Rattle.smap_tool.proofs.commands.compose.compose.Goals as goal

abbrev link_of : Bor (List ℕ) × ReadMap → Link
link_of l = (l.0.now, record_of l.1)

pub unled-requires : goal.unled-requires
unled-requires c =
    let links = c.deref.result.now in
    let most : length links < 2 ^ 64 = search rules in
    let is : unled (record_of c.args.chain.now.outer) (links_of links) ≡ Some c.in-Some.link =
    sym c.in_ok-link.ensures ∙ c.in-Some.is in
    let less = is_link (record_of c.args.chain.now.outer) (links_of links) c.in-Some.link is in
    omega (arith, less, most, length-map links link_of)

pub returns-in_ok-text_of-in-Ok : goal.returns-in_ok-text_of-in-Ok
returns-in_ok-text_of-in-Ok c =
    let ch = chain_of c.args.chain.now in
    let links = c.args.chain.now.links.items in
    let none : unled ch.outer ch.links ≡ None =
    ap (λ (ls : List (Bor (List ℕ) × ReadMap)). unled ch.outer (links_of ls)) (sym c.deref.ensures.value)
    ∙ sym c.in_ok-link.ensures ∙ c.in_default.is in
    composed_is c.args.options ch c.in_ok-text_of-in-Ok.field-0.items (record_of c.in-Ok.map) none
    (rw (c.usual.ensures, c.deref-2.ensures.value) at c.in-Ok.ensures.few)
    (rw c.deref-2.ensures.value at c.in-Ok.ensures.record) c.in_ok-text_of-in-Ok.ensures
