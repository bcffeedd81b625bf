use Rattle.std.proofs.Common.{rules, ◌≡◌, sym, ap, ◌∙◌, subst, ◌-◌, ◌+◌}
use Rattle.std.proofs.Common.{length}
use Rattle.std.proofs.Common.{take, drop, true}
use Rattle.std.proofs.lemmas.List.{take_rest}
use Rattle.std.proofs.lemmas.Bool.{OnTrue_from}
use Rattle.std.specs.List.{list_all}
use Rattle.json.specs.Json.{Json}
use Rattle.json.specs.Word.{is_space}
use Rattle.serde_json.specs.Find.{at}
use Rattle.smap_fault_places.specs.Ranges.{bytes_in}
use Rattle.smap_fault_places.specs.Contexts.{IsText, IsPart, IsBeforeItem, IsAfterItem}
use Rattle.smap_fault_places.proofs.PartLemmas.{last-byte, part-first, part-item, on-true}
use Rattle.smap_fault_places.proofs.part.is_item.Goals as goal

pub returns-then-index-eq0 : goal.returns-then-index-eq0
returns-then-index-eq0 c =
    let text = c.args.text.now in
    let r = c.args.range in
    let before = take r.start text in
    let len = length before - c.space_at_end.result in
    let front = c.in-Some.front.now in
    let cases = c.in-Some.ensures.cases in
    let raw : list_all is_space (take (length before - len) (drop len before)) ≡ true = search rules in
    let blank : list_all is_space (drop len before)
    ≡ true = ap (list_all is_space) (sym (take_rest before len)) ∙ raw in
    let inner : (j : Json) × IsText c.args.depth (bytes_in r text) j = search rules in
    let end = length text - r.end in
    let b : IsAfterItem c.args.depth (take end (drop r.end text)) = search rules in
    OnTrue_from c.is_blank-then-index-eq0.result (IsPart (c.args.depth + 1) c.args.depth (at
    c.args.index) text r)
    (λ lead. part-first c.args.depth text front len r c.requires
    (last-byte 91 (take len before) front cases.0 cases.1) blank inner
    (sym c.is_blank-then-index-eq0.ensures ∙ lead)
    (subst (λ l. IsAfterItem c.args.depth l) (take_rest text r.end) b) c.args.index c.if-index-eq0.true)

pub returns : goal.returns
returns c =
    let text = c.args.text.now in
    let r = c.args.range in
    let before = take r.start text in
    let len = length before - c.space_at_end.result in
    let front = c.in-Some-strip_suffix.front.now in
    let cases = c.in-Some-strip_suffix.ensures.cases in
    let raw : list_all is_space (take (length before - len) (drop len before)) ≡ true = search rules in
    let blank : list_all is_space (drop len before)
    ≡ true = ap (list_all is_space) (sym (take_rest before len)) ∙ raw in
    let inner : (j : Json) × IsText c.args.depth (bytes_in r text) j = search rules in
    let end = length text - r.end in
    let b : IsAfterItem c.args.depth (take end (drop r.end text)) = search rules in
    on-true c.opens_items.result (IsBeforeItem c.args.depth c.args.index front)
    (IsPart (c.args.depth + 1) c.args.depth (at c.args.index) text r)
    (λ f. part-item c.args.depth c.args.index text front len r c.requires
    (last-byte 44 (take len before) front cases.0 cases.1) blank inner f
    (subst (λ l. IsAfterItem c.args.depth l) (take_rest text r.end) b)) c.opens_items.ensures
