use Rattle.smap_io.proofs.LineLemmas.{last_taken}
use Rattle.smap_io.proofs.lines.take_last.Goals as goal

pub returns : goal.returns
returns g c = last_taken (g.E.EachLine.takes c.args.each.now) c.take.result c.args.line.now
    c.args.so_far.now c.take.new.so_far c.requires c.if-is_empty.ensures c.take.ensures
