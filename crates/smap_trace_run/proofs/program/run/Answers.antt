use Rattle.std.proofs.Common.{map}
use Rattle.smap_command_line.specs.declared.trace.words.Asked.TheVariants.{Help, Trace, Version}
use Rattle.smap_trace_run.proofs.RunLemmas.{answered, finished, stopped}
use Rattle.smap_trace_run.proofs.program.run.Goals as goal

pub returns-in-Ok-Help : goal.returns-in-Ok-Help
returns-in-Ok-Help g c = finished c.write.result _ c.status.result c.status.ensures
    (answered _ _ _ _ (map (λ w. w.now) c.args.words.now) Help _ _ _ _ c.write.result
    (rw c.in-Ok-Help.field-0-is at c.in-Ok-Help.ensures.asked)
    (rw c.as_bytes.ensures.value at c.write.ensures))

pub returns-in-Ok-Version : goal.returns-in-Ok-Version
returns-in-Ok-Version g c = finished c.write-in-Ok-Version.result _ c.status-in-Ok-Version.result
    c.status-in-Ok-Version.ensures
    (answered _ _ _ _ (map (λ w. w.now) c.args.words.now) Version _ _ _ _ c.write-in-Ok-Version.result
    (rw c.in-Ok-Version.field-0-is at c.in-Ok-Version.ensures.asked)
    (rw c.as_bytes-in-Ok-Version.ensures.value at c.write-in-Ok-Version.ensures))

pub returns-in-Ok-Trace : goal.returns-in-Ok-Trace
returns-in-Ok-Trace g c = λ none. (
  Trace c.in-Ok-Trace.asked,
  rw c.in-Ok-Trace.field-0-is at c.in-Ok-Trace.ensures.asked,
  rw (c.exit_status.ensures none) at c.trace.ensures,
)

pub returns-in-Err-Options : goal.returns-in-Err-Options
returns-in-Err-Options g c = stopped c.refuse_options.result _ c.status-in-Err-Options.result
    c.status-in-Err-Options.ensures

pub returns-in-Err-Nothing : goal.returns-in-Err-Nothing
returns-in-Err-Nothing g c = stopped c.fail_with_help.result _ c.status-in-Err-Nothing.result
    c.status-in-Err-Nothing.ensures

pub returns : goal.returns
returns g c = stopped c.fail_words.result _ c.status-in-Err.result c.status-in-Err.ensures
