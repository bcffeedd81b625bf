use Rattle.smap_record.specs.Record.{record_of}
use Rattle.smap_record.specs.Views.{entry_of_view}
use Rattle.smap_lint_rules.specs.Findings.{names_map}
use Rattle.smap_lint_rules.proofs.WalkLemmas.{filter_next}
use Rattle.smap_lint_rules.proofs.originals.count_open.Goals as goal

pub loop-number-preserved : goal.loop-number-preserved
loop-number-preserved c = rw (
  filter_next names_map (record_of c.args.map.now).sources c.loop-number.number
      (entry_of_view c.source.result) c.source.ensures,
  ← c.loop-number.invariant,
  ← c.names_map.ensures,
) c.counted-count.ensures
