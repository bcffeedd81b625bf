use Rattle.smap_logs.proofs.WholeLemmas.{lines_are}
use Rattle.smap_logs.proofs.block.Block.lines.Goals as goal

pub returns : goal.returns
returns c = rw (c.deref.ensures.value, ← c.self.view_is) (lines_are _ _ c.self.invariant)
