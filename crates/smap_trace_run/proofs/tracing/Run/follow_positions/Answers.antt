use Rattle.std.proofs.Common.{◌∙◌, ap}
use Rattle.smap_map_files.specs.Positions.{log_in}
use Rattle.smap_trace_run.proofs.tracing.Run.follow_positions.Goals as goal

pub returns-clause-traced : goal.returns-clause-traced
returns-clause-traced g c =
    let text =
    c.as_slice.ensures.value ∙ c.in_ok-log.ensures ∙ ap (λ r. log_in r.job.wanted.positions) c.self.view_is in
    rw text at c.follow_log.ensures.traced
