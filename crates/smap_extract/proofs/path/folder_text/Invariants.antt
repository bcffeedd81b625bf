use Rattle.std.proofs.Common.{◌≡◌, map, take}
use Rattle.smap_extract.specs.Paths.{folder_text}
use Rattle.smap_extract.specs.Segments.{cleaned}
use Rattle.smap_extract.proofs.path.folder_text.Given as goal

abbrev pub invariant-loop-step : goal.invariant-loop-step
invariant-loop-step l = l.text.items ≡ folder_text (map (λ s. cleaned s.now) (take l.step-index l.steps))
