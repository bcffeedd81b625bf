use Rattle.std.proofs.Common.{◌∙◌, ap}
use Rattle.smap_trace_run.specs.OutputView.{contents_of}
use Rattle.smap_trace_run.specs.Runs.{pairs_of, prefixes_of}
use Rattle.smap_trace_run.proofs.RunLemmas.{asked_traced}
use Rattle.smap_trace_run.proofs.program.trace.Goals as goal

pub job_of-requires : goal.job_of-requires
job_of-requires g c = ap pairs_of c.deref-2.ensures.value ∙ c.in_ok-prefixes.ensures
    ∙ ap prefixes_of c.deref.ensures.value

pub returns : goal.returns
returns g c = asked_traced (g.D.Disk.tree c.args.host.now.disk.now) (g.D.Disk.held c.args.host.now.disk.now)
    c.args.asked.now c.in_ok-job.job c.args.input.kind (g.I.Read.remaining c.args.input.reader)
    (contents_of g.W.Write.contents c.args.output.now)
    (contents_of g.W.Write.contents c.run_job.new.output) c.run_job.result c.in_ok-job.ensures.found
    c.in_ok-job.ensures.job c.run_job.ensures
