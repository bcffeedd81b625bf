use Rattle.smap_map_finder.proofs.ChoiceLemmas.{clear_choice}
use Rattle.smap_map_finder.proofs.opening.Search.settled.Goals as goal

pub returns-then-are_plain-clause-picked : goal.returns-then-are_plain-clause-picked
returns-then-are_plain-clause-picked g c =
    clear_choice (g.D.Disk.held c.args.self.now.host.now.disk.now) c.args.self.now.wanted.now _
    c.args.picks.items
    c.requires.picks (rw c.deref.ensures.value at (c.are_plain.ensures c.if-are_plain.true))
