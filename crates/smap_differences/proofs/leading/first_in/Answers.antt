use Rattle.std.proofs.Common.{rules, length, ◌∙◌, sym}
use Rattle.smap_record.specs.Record.{record_of}
use Rattle.smap_differences.specs.Leading.{counts}
use Rattle.smap_differences.proofs.LeadingLemmas.{find_here, find_later}
use Rattle.smap_differences.proofs.leading.first_in.Goals as goal

pub returns-then-counts : goal.returns-then-counts
returns-then-counts c = sym (c.loop-i.invariant
    ∙ find_here (counts c.args.shared (record_of c.args.map.now) (record_of c.args.other.now))
    (length (record_of c.args.map.now).mappings) c.loop-i.i (search rules) (search rules))

pub loop-i-preserved : goal.loop-i-preserved
loop-i-preserved c = c.loop-i.invariant
    ∙ find_later (counts c.args.shared (record_of c.args.map.now) (record_of c.args.other.now))
    (length (record_of c.args.map.now).mappings) c.loop-i.i (search rules) (search rules)
