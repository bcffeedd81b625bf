use Rattle.smap_record.specs.Record.{record_of}
use Rattle.smap_lint_rules.specs.Contents.{leads_past}
use Rattle.smap_lint_rules.proofs.WalkLemmas.{filter_next_by}
use Rattle.smap_lint_rules.proofs.contents.count_originals_past_end.Goals as goal

pub loop-i-preserved : goal.loop-i-preserved
loop-i-preserved c = rw (
  filter_next_by leads_past (record_of c.args.map.now).mappings c.loop-i.i
      c.leads_past.result c.leads_past.ensures,
  ← c.loop-i.invariant,
) c.counted-count.ensures
