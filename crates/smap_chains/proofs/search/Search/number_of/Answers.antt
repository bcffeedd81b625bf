use Rattle.smap_chains.proofs.SearchLemmas.{files_on}
use Rattle.smap_chains.proofs.search.Search.number_of.Goals as goal

pub returns-then-found-clause-files : goal.returns-then-found-clause-files
returns-then-found-clause-files g c = files_on (g.D.Disk.held c.args.sources.now.disk.now)
    c.args.sources.now.asked
    c.args.self.now c.refuse.new.self c.refuse.result c.refuse.ensures.keeps c.refuse.ensures.files c.requires

pub returns-in_ok-opened-in_default-clause-files : goal.returns-in_ok-opened-in_default-clause-files
returns-in_ok-opened-in_default-clause-files g c = files_on (g.D.Disk.held c.args.sources.now.disk.now)
    c.args.sources.now.asked
    c.args.self.now c.settle.new.self c.settle.result c.settle.ensures.keeps c.settle.ensures.files c.requires
