use Rattle.std.proofs.Common.{rules, ◌≡◌, sym, ap, ◌∙◌, subst, ◌-◌, ◌+◌}
use Rattle.std.proofs.Common.{length}
use Rattle.std.proofs.Common.{take, drop, true}
use Rattle.std.proofs.lemmas.List.{take_rest}
use Rattle.std.specs.List.{list_all}
use Rattle.json.specs.Json.{Json}
use Rattle.json.specs.Word.{is_space}
use Rattle.serde_json.specs.Find.{get}
use Rattle.smap_fault_places.specs.Ranges.{bytes_in}
use Rattle.smap_fault_places.specs.Contexts.{IsText, IsPart, IsBeforeMember, IsAfterMember}
use Rattle.smap_fault_places.proofs.PartLemmas.{last-byte, part-member, on-true}
use Rattle.smap_fault_places.proofs.part.is_member.Goals as goal

pub returns : goal.returns
returns c =
    let text = c.args.text.now in
    let r = c.args.range in
    let before = take r.start text in
    let len = length before - c.space_at_end.result in
    let front = c.in-Some.front.now in
    let cases = c.in-Some.ensures.cases in
    let raw : list_all is_space (take (length before - len) (drop len before)) ≡ true = search rules in
    let blank : list_all is_space (drop len before)
    ≡ true = ap (list_all is_space) (sym (take_rest before len)) ∙ raw in
    let inner : (j : Json) × IsText c.args.depth (bytes_in r text) j = search rules in
    let f : IsBeforeMember c.args.depth c.args.name.now front = search rules in
    let end = length text - r.end in
    on-true c.closes_object.result (IsAfterMember c.args.depth c.args.name.now (take end (drop r.end text)))
    (IsPart (c.args.depth + 1) c.args.depth (get c.args.name.now) text r)
    (λ b. part-member c.args.depth c.args.name.now text front len r c.requires
    (last-byte 58 (take len before) front cases.0 cases.1) blank inner f
    (subst (λ l. IsAfterMember c.args.depth c.args.name.now l) (take_rest text r.end) b))
    c.closes_object.ensures
