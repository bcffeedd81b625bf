use Rattle.smap_trace_run.specs.Runs.{IsTranslating}
use Rattle.smap_trace_run.proofs.RunLemmas.{if_asked, not_explained, not_listed}
use Rattle.smap_trace_run.proofs.program.run_job.Goals as goal

pub returns-then-job : goal.returns-then-job
returns-then-job g c = not_listed c.args.job.now _ c.list.result c.if-job.true

pub returns-in-Some : goal.returns-in-Some
returns-in-Some g c = not_explained c.args.job.now c.in-Some.position _ c.explain.result c.in-Some.is

pub returns : goal.returns
returns g c = if_asked (IsTranslating c.args.job.now) _ c.trace-answer.result
    (rw (c.in_ok-run.ensures.0, c.in_ok-run.ensures.1) at c.trace-answer.ensures)
