use Rattle.smap_lint_rules.proofs.SourceLemmas.{stripped, unstripped}
use Rattle.smap_lint_rules.proofs.sources.own_part.Goals as goal

pub returns-in-Some : goal.returns-in-Some
returns-in-Some c = stripped c.args.folder.now c.args.url.now c.in-Some.rest.now c.in-Some.ensures.cases

pub returns-in-None : goal.returns-in-None
returns-in-None c = unstripped c.args.folder.now c.args.url.now c.in-None.ensures.cases
