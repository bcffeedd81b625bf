use Rattle.std.proofs.Common.{◌≡◌, map, option_map, take}
use Rattle.smap_map_finder.specs.Choice.{file_of}
use Rattle.smap_map_finder.proofs.taking.files_of.Given as goal

abbrev pub invariant-loop-pick : goal.invariant-loop-pick
invariant-loop-pick l = map (option_map (λ f. f.now)) l.files.items
    ≡ map (λ p. file_of l.wanted p.found) (take l.pick-index l.picks)
