use Rattle.std.proofs.Common.{None, sym, arith, length, ◌-◌}
use Rattle.smap_functions.proofs.SegmentLemmas.{last_at}
use Rattle.smap_functions.proofs.segments.innermost_last.Goals as goal

pub returns-in-len1-up : goal.returns-in-len1-up
returns-in-len1-up c = sym (last_at c.args.begun.now (length c.args.begun.now - 1)
    (record { start = 0; innermost = None }) None (omega (arith, c.in-len1-up.len_at_least)))
