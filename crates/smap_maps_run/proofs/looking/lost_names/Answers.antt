use Rattle.std.proofs.Common.{codes}
use Rattle.smap_maps_run.proofs.LookingLemmas.{both_told}
use Rattle.smap_maps_run.proofs.looking.lost_names.Goals as goal

pub returns : goal.returns
returns c = rw (← c.in_ok-drops.ensures.own, ← c.in_ok-drops.ensures.below) (both_told _ _
    c.in_ok-drops.drops.own.items c.in_ok-drops.drops.in_sections.items (codes "sections.")
    (rw c.deref-2.ensures.value at c.in_ok-add_names-2.ensures)
    (rw (c.new-names.ensures.items, c.deref.ensures.value) at c.in_ok-add_names.ensures))
