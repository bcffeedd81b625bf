use Rattle.std.proofs.Common.{◌≡◌, drop}
use Rattle.smap_logs.specs.Prefixes as spec
use Rattle.smap_logs.proofs.prefixes.with_prefix.Given as goal

abbrev pub invariant-loop-prefix : goal.invariant-loop-prefix
invariant-loop-prefix l = spec.with_prefix (spec.prefixes_in l.prefixes) l.url
    ≡ spec.with_prefix (spec.prefixes_in (drop l.prefix-index l.prefixes)) l.url
