use Rattle.std.proofs.Common.{arith}
use Rattle.smap_lint_rules.proofs.IdLemmas.{id_in_none}
use Rattle.smap_lint_rules.proofs.ids.+id_in_lines.Goals as goal

pub returns-in-None : goal.returns-in-None
returns-in-None t c =
    id_in_none c.args.lines c.args.text.now c.last_line.result.0.now c.last_line.result.1.now _
    (omega arith) c.last_line.ensures.line c.last_line.ensures.before (rw c.in-None.is at c.id_in.ensures)
    c.id_in_lines.ensures
