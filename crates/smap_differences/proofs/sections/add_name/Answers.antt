use Rattle.smap_differences.proofs.DropLemmas.{added}
use Rattle.smap_differences.proofs.sections.add_name.Goals as goal

pub returns : goal.returns
returns c = added c.args.found.now.keys c.insert.new.self.keys c.args.name c.in_ok-insert.ensures.keys
