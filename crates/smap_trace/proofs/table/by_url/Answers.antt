use Rattle.std.proofs.Common.{◌∙◌, ap, arith, rules, List}
use Rattle.smap_record.specs.Record.{record_of}
use Rattle.smap_trace.specs.Scripts.{Script, with_script}
use Rattle.smap_trace.proofs.TableLemmas.{one_more}
use Rattle.smap_trace.proofs.table.by_url.Goals as goal

pub loop-script-preserved : goal.loop-script-preserved
loop-script-preserved c =
    let given = c.script-item.result in
    let r = record_of given.1.now in
    c.in_ok-put.ensures.ok
    ∙ ap (λ (ss : List Script). with_script c.in_ok-url.url.items r ss) c.loop-script.invariant
    ∙ one_more c.args.scripts.now c.loop-script.script-index given c.in_ok-url.url.items r
    (omega arith) c.requires (search rules) (search rules)
