use Rattle.std.proofs.Common.{◌-◌, arith, map}
use Rattle.serde_json.specs.View.{view}
use Rattle.smap_lint_rules.specs.Members.{maps_of_section}
use Rattle.smap_lint_rules.proofs.MemberLemmas.{all_added, below_more, one_added}
use Rattle.smap_lint_rules.proofs.members.+levels.Goals as goal

pub add_below-loop-i-preserved : goal.add_below-loop-i-preserved
add_below-loop-i-preserved t c =
    one_added (maps_of_section (c.args.levels - 1)) view (map (λ m. view m.now) c.args.maps.now.items)
    (map (λ m. view m.now) c.loop-i.maps.items) (map (λ m. view m.now) c.add_section.new.maps.items)
    c.sections_of-sections.result.now c.loop-i.i c.index-sections-i.result
    c.loop-i-test.true c.index-sections-i.is c.loop-i.invariant c.in_ok-add_section.ensures

pub add_below-returns : goal.add_below-returns
add_below-returns t c =
    rw (below_more c.args.levels (view c.args.tree.now) (omega arith), ← c.sections_of-sections.ensures)
    (all_added (maps_of_section (c.args.levels - 1)) view (map (λ m. view m.now) c.args.maps.now.items)
    (map (λ m. view m.now) c.loop-i.maps.items) c.sections_of-sections.result.now c.loop-i.i
    c.loop-i-test.false c.loop-i.invariant)
