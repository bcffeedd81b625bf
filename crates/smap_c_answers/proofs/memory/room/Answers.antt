use Rattle.std.proofs.Common.{◌∙◌, add-one, arith}
use Rattle.smap_c_answers.specs.Memory.{doubled}
use Rattle.smap_c_answers.proofs.MemoryLemmas.{room_grows, room_stays}
use Rattle.smap_c_answers.proofs.memory.room.Goals as goal
use Rattle.smap_c_answers.proofs.memory.room.Goals.{then-room-n, else-room-n}

pub loop-k-init : goal.loop-k-init
unfolding doubled
loop-k-init c = omega (arith, c.ranges.first.fits)

pub loop-k-preserved : goal.loop-k-preserved
unfolding doubled
loop-k-preserved c = rw (add-one c.loop-k.k) (elim c.if-room-n.branch [
  | then-room-n w ↦
      room_grows c.args.n (doubled c.args.first c.args.n c.loop-k.k) c.loop-k.room c.if-room-n.room
      c.loop-k.invariant w.if-room-n.true c.ranges.n.fits (w.room-is ∙ w.saturating_add-room.ensures)
  | else-room-n w ↦
      w.room-is ∙ room_stays c.args.n (doubled c.args.first c.args.n c.loop-k.k) c.loop-k.room
      c.loop-k.invariant w.if-room-n.false
])
