use Rattle.std.proofs.Common.{◌≡◌, take, true}
use Rattle.std.specs.List.{All}
use Rattle.smap_map_finder.specs.Choice.{is_plain}
use Rattle.smap_map_finder.proofs.picking.are_plain.Given as goal

abbrev pub invariant-loop-i : goal.invariant-loop-i
invariant-loop-i l = All (λ p. is_plain l.wanted p.found ≡ true) (take l.i l.picks)
