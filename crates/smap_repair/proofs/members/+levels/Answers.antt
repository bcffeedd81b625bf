use Rattle.std.proofs.Common.{◌∙◌, ◌-◌, ◌++◌, ap, List}
use Rattle.std.specs.List.{flat_map}
use Rattle.std.proofs.lemmas.List.{take_all}
use Rattle.serde_json.specs.declared.value.Value.{Value}
use Rattle.smap_repair.specs.Members.{members_in, staying_in_section}
use Rattle.smap_repair.proofs.MemberLemmas.{below_is, section_more}
use Rattle.smap_repair.proofs.members.+levels.Goals as goal

pub add_sections-loop-i-preserved : goal.add_sections-loop-i-preserved
add_sections-loop-i-preserved t c = section_more (staying_in_section (c.args.levels - 1))
    (members_in c.args.found.now.items) c.sections_of-sections.result.now c.loop-i.i
    c.index-sections-i.result (members_in c.loop-i.found.items) (members_in c.add_section.new.found.items)
    c.loop-i-test.true c.index-sections-i.is c.loop-i.invariant c.in_ok-add_section.ensures

pub add_sections-returns : goal.add_sections-returns
add_sections-returns t c =
    let sections = c.sections_of-sections.result.now in
    let all = take_all c.loop-i.i sections c.loop-i-test.false ∙ c.sections_of-sections.ensures in
    c.loop-i.invariant ∙ ap (λ (ss : List Value). members_in c.args.found.now.items
    ++ flat_map (staying_in_section (c.args.levels - 1)) ss) all
    ∙ ap (λ ms. members_in c.args.found.now.items ++ ms)
    (below_is c.args.levels c.args.map.now c.if-levels-eq0.false)
