use Rattle.std.proofs.Common.{rules, sym, ◌∙◌}
use Rattle.smap_fault_places.proofs.SegmentLemmas.{is_in}
use Rattle.smap_fault_places.proofs.segment.Sought.if_written.Goals as goal

pub returns-then-branch-2 : goal.returns-then-branch-2
returns-then-branch-2 c =
    let sought = c.args.self.now in
    is_in sought.text.now sought.mappings.now sought.within c.args.span c.args.range sought.place
    c.requires.span c.requires.inner (sym c.is_segment.ensures ∙ c.if-is_segment.true) (search rules)
    (search rules)
