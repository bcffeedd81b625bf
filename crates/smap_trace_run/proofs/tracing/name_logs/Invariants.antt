use Rattle.std.proofs.Common.{◌≡◌, ◌<◌, ℕ, List, Bor, get_or, length}
use Rattle.smap_system.specs.Held.{HasSize}
use Rattle.smap_logs.specs.Naming.{names_of}
use Rattle.smap_trace_run.specs.Written.{AreAmong, asked_by}
use Rattle.smap_trace_run.proofs.NamedLemmas.{HaveNamesTo}
use Rattle.smap_trace_run.proofs.tracing.name_logs.Given as goal

abbrev pub invariant-loop-path : goal.invariant-loop-path
invariant-loop-path g l = record {
  names : HaveNamesTo (g.D.Disk.held l.host.disk.now) l.job.wanted l.paths l.path-index l.names;
  among : AreAmong (asked_by (g.D.Disk.held l.host.disk.now) l.job) (names_of l.names);
  count : length l.sizes.items ≡ l.path-index;
  each : (k : ℕ) (d : Bor (List ℕ)) → k < l.path-index
      → HasSize (g.D.Disk.held l.host.disk.now) (get_or l.paths k d).now (get_or l.sizes.items k 0);
}
