use Rattle.std.proofs.Common.{rules, length}
use Rattle.smap_record.specs.Record.{record_of}
use Rattle.smap_differences.specs.Leading.{counts}
use Rattle.smap_differences.proofs.LeadingLemmas.{filter_next}
use Rattle.smap_differences.proofs.leading.count_in.Goals as goal

pub loop-i-preserved : goal.loop-i-preserved
loop-i-preserved c = rw (
  filter_next (counts c.args.shared (record_of c.args.map.now) (record_of c.args.other.now))
      (length (record_of c.args.map.now).mappings) c.loop-i.i (search rules),
  ← c.loop-i.invariant,
  ← c.counts.ensures,
) c.more-count.ensures
