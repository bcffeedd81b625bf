use Rattle.smap_trace_run.proofs.PartsLemmas.{taken_all}
use Rattle.smap_trace_run.proofs.tracing.open_front.Goals as goal

pub returns : goal.returns
returns g c =
    taken_all g.D.Reader.Read.remaining (g.D.Disk.held c.args.host.now.disk.now) c.args.path.now
    c.args.size c.in_ok-log.log c.take.result c.take.ensures.limit c.take.ensures.inner c.requires
    c.in_ok-log.ensures
