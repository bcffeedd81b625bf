use Rattle.std.proofs.Common.{◌≡◌}
use Rattle.smap_trace_run.proofs.tracing.Run.decorate_log.Given as goal

abbrev pub invariant-loop : goal.invariant-loop
invariant-loop g l = l.self ≡ l.initial.self
