use Rattle.std.proofs.Common.{◌≡◌, drop}
use Rattle.smap_trace_summary.specs.Builds as spec
use Rattle.smap_trace_summary.proofs.builds.differ_in_hash.Given as goal

abbrev pub invariant-loop-at : goal.invariant-loop-at
invariant-loop-at l = spec.differ_in_hash l.a l.b ≡ spec.differ_in_hash (drop l.at l.a) (drop l.at l.b)
