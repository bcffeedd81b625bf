use Rattle.smap_map_finder.proofs.finder.Finder.forget_many.Goals as goal

pub invariant_of-self : goal.invariant_of-self
invariant_of-self g c =
    record { over = c.self.invariant.over; chosen = c.forget_many.ensures.chosen _ _ c.self.invariant.chosen }

pub returns-clause-named : goal.returns-clause-named
returns-clause-named g c = c.forget_many.ensures.chosen _ _ c.self.invariant.chosen
