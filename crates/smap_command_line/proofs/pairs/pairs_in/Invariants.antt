use Rattle.std.proofs.Common.{◌≡◌, map, take}
use Rattle.smap_command_line.specs.Values.{pair_meant, pair_view}
use Rattle.smap_command_line.proofs.pairs.pairs_in.Given as goal

abbrev pub invariant-loop-i : goal.invariant-loop-i
invariant-loop-i l =
    map pair_view l.pairs.items ≡ map pair_meant (take l.i (map (λ s. s.now) l.words))
