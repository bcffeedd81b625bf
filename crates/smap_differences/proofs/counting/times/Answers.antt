use Rattle.std.proofs.Common.{Some, None}
use Rattle.smap_differences.proofs.CountLemmas.{times_found}
use Rattle.smap_differences.proofs.counting.times.Goals as goal

pub returns-in-Some : goal.returns-in-Some
returns-in-Some c =
    times_found (Some c.in-Some.count.now) c.args.text.now c.args.counts.now.entries c.in-Some.ensures.value

pub returns-in-None : goal.returns-in-None
returns-in-None c = times_found None c.args.text.now c.args.counts.now.entries c.in-None.ensures.value
