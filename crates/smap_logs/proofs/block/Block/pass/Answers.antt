use Rattle.std.proofs.Common.{rules}
use Rattle.smap_logs.proofs.WholeLemmas.{passed_is}
use Rattle.smap_logs.proofs.block.Block.pass.Goals as goal

pub returns : goal.returns
returns c = rw (c.truncate.ensures.items, c.rotate_left.ensures.items, ← c.self.view_is)
    (passed_is c.self.inside.bytes.items c.self.inside.whole c.len.result (search rules) c.self.invariant)
