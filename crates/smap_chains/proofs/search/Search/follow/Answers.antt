use Rattle.smap_chains.proofs.SearchLemmas.{files_kept, files_on}
use Rattle.smap_chains.proofs.search.Search.follow.Goals as goal

pub returns-then-not-fits-clause-files : goal.returns-then-not-fits-clause-files
returns-then-not-fits-clause-files g c = files_on (g.D.Disk.held c.args.sources.now.disk.now)
    c.args.sources.now.asked
    c.number_of.new.self c.refuse.new.self c.refuse.result c.refuse.ensures.keeps c.refuse.ensures.files
    c.in_ok-number.ensures.files

pub returns-clause-files : goal.returns-clause-files
returns-clause-files g c = files_kept (g.D.Disk.held c.args.sources.now.disk.now) c.args.sources.now.asked
    c.number_of.new.self c.note.new.self c.note.ensures.keeps c.note.ensures.files
    c.in_ok-number.ensures.files
