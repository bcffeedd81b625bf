use Rattle.smap_record.specs.Views.{entry_of_view}
use Rattle.smap_chains.proofs.SearchLemmas.{number_step}
use Rattle.smap_chains.proofs.search.Search.number.Goals as goal

pub returns-in-Some-clause-is : goal.returns-in-Some-clause-is
returns-in-Some-clause-is g c = number_step (g.D.Disk.held c.args.sources.now.disk.now)
    c.args.sources.now.asked
    c.follow.new.self.maps.items c.args.script.now (entry_of_view c.args.source) c.in-Some.found
    c.follow.result
    (rw c.in-Some.is at c.in_ok-found.ensures) c.follow.ensures.is
