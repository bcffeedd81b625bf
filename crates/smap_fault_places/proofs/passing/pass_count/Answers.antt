use Rattle.std.proofs.Common.{rules}
use Rattle.smap_fault_places.proofs.PassLemmas.{items-start, items-more}
use Rattle.smap_fault_places.proofs.passing.pass_count.Goals as goal

pub loop-init : goal.loop-init
loop-init c = items-start c.args.depth c.args.reader.now

pub loop-preserved : goal.loop-preserved
loop-preserved c = items-more c.args.depth c.loop.counter c.args.reader.now c.loop.reader
    c.skip_value.new.self
    c.loop.invariant (search rules)
