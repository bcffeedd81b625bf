use Rattle.std.proofs.Common.{inl, refl}
use Rattle.smap_map_finder.proofs.opening.Search.choose.Goals as goal

pub returns-in_default : goal.returns-in_default
returns-in_default g c = record { name = refl; choice = inl c.requires.best; over = c.requires.over }

pub returns-then-not-branch-clause-choice : goal.returns-then-not-branch-clause-choice
returns-then-not-branch-clause-choice g c = inl c.requires.best
