use Rattle.std.proofs.Common.{◌≡◌, take}
use Rattle.smap_trace_run.specs.Runs.{pairs_of, prefixes_of}
use Rattle.smap_trace_run.proofs.program.prefixes.Given as goal

abbrev pub invariant-loop-prefix : goal.invariant-loop-prefix
invariant-loop-prefix l = pairs_of l.prefixes.items ≡ prefixes_of (take l.prefix-index l.all)
