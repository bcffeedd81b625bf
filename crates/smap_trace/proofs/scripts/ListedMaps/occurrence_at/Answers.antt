use Rattle.std.proofs.Common.{rules, length, option_map}
use Rattle.smap_record.specs.Record.{record_of}
use Rattle.smap_trace.specs.Anywhere.{longest}
use Rattle.smap_trace.specs.OccurrenceView.{occurrence_in}
use Rattle.smap_trace.specs.Views.{scripts_in}
use Rattle.smap_trace.proofs.OccurrenceLemmas.{one_more_script, either_within}
use Rattle.smap_trace.proofs.scripts.ListedMaps.occurrence_at.Goals as goal

pub loop-script-preserved : goal.loop-script-preserved
loop-script-preserved c =
    let scripts = c.args.self.now.scripts.now in
    let found = c.occurrence_of-found in
    record {
      within = either_within (length c.args.text.now) c.loop-script.best found.result c.longer-best.result
          c.loop-script.invariant.within found.ensures.within c.longer-best.ensures.either;
      rest = one_more_script c.args.ignore_query c.args.text.now scripts c.loop-script.script-index
          c.script-item.result (option_map occurrence_in c.loop-script.best)
          (option_map occurrence_in found.result) (option_map occurrence_in c.longer-best.result)
          (longest c.args.ignore_query (scripts_in scripts) c.args.text.now) c.as_bytes.result.now
          (record_of c.script-item.result.1.now) c.loop-script-test.true c.longer-best.ensures.value
          found.ensures.value (search rules) (search rules) c.loop-script.invariant.rest;
    }
