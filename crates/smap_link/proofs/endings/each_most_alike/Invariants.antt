use Rattle.std.proofs.Common.{◌≡◌, ◌<◌, ℕ, [], get_or, length, map}
use Rattle.smap_link.specs.Likeness.{IsMostAlike}
use Rattle.smap_link.specs.declared.likeness.Likeness.TheVariants.{Unlike}
use Rattle.smap_link.proofs.endings.each_most_alike.Given as goal

abbrev pub invariant-loop-i : goal.invariant-loop-i
invariant-loop-i l = (length l.found.items ≡ l.i) × ((k : ℕ) → k < l.i
    → IsMostAlike (get_or (map (λ p. p.items) l.wanted) k []) (map (λ p. p.items) l.paths)
    (get_or l.found.items k Unlike))
