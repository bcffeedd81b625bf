use Rattle.std.proofs.Common.{◌≡◌, filter, map}
use Rattle.smap_extract.specs.Paths.{leads}
use Rattle.smap_extract.proofs.path.steps.Given as goal

abbrev pub invariant-loop-segment : goal.invariant-loop-segment
invariant-loop-segment l = map (λ s. s.now) l.steps.items ≡ filter leads (map (λ s. s.now) l.yielded)
