use Rattle.std.proofs.Common.{◌-◌}
use Rattle.smap_differences.specs.Drops.{lost_with_section}
use Rattle.smap_differences.proofs.DropLemmas.{section_added, texts}
use Rattle.smap_differences.proofs.sections.+levels.Goals as goal

pub add_below-loop-i-preserved : goal.add_below-loop-i-preserved
add_below-loop-i-preserved t c =
    section_added (lost_with_section (c.args.levels - 1)) (texts c.args.found.now.keys)
    c.sections_of-sections.result.now c.loop-i.i c.index-sections-i.result c.loop-i.found.keys
    c.add_section.new.found.keys c.loop-i-test.true c.index-sections-i.is c.loop-i.invariant
    c.in_ok-add_section.ensures
