use Rattle.std.proofs.Common.{◌≡◌, take}
use Rattle.std.specs.List.{All}
use Rattle.smap_link.specs.Paths.{bare}
use Rattle.smap_link.proofs.table.are_bare.Given as goal

abbrev pub invariant-loop-i : goal.invariant-loop-i
invariant-loop-i l = All (λ n. bare n.now ≡ n.now) (take l.i l.names)
