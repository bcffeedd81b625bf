use Rattle.std.proofs.Common.{◌+◌, refl}
use Rattle.smap_differences.proofs.CountLemmas.{one_more}
use Rattle.smap_differences.proofs.counting.add_text.Goals as goal

pub returns : goal.returns
returns c =
    one_more c.args.counts.now.entries c.insert.new.self.entries c.args.text c.times-count.result
    (c.times-count.result + 1) c.times-count.ensures refl c.in_ok-insert.ensures.entries
