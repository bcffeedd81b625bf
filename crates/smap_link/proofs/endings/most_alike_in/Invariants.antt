use Rattle.std.proofs.Common.{map}
use Rattle.smap_link.specs.Endings.{EndsAlike, up_to}
use Rattle.smap_link.specs.Likeness.{IsMostAlikeFrom}
use Rattle.smap_link.proofs.endings.most_alike_in.Given as goal

abbrev pub invariant-paths : goal.invariant-paths
invariant-paths l =
    IsMostAlikeFrom l.wanted (map (λ p. p.items) l.paths) (up_to l.at) l.best.agreement l.best.found
    × EndsAlike l.wanted (map (λ p. p.items) l.paths) l.at

abbrev pub decreases-paths : goal.decreases-paths
decreases-paths l = up_to l.at
