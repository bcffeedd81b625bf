use Rattle.smap_map_finder.proofs.finder.Finder.open_for.Goals as goal

pub returns-clause-settled : goal.returns-clause-settled
returns-clause-settled g c = rw (← c.self.view_is) c.open_for.ensures.settled

pub returns-clause-ends : goal.returns-clause-ends
returns-clause-ends g c = rw (← c.self.view_is) c.open_for.ensures.ends
