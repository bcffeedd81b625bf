use Rattle.std.proofs.Common.{arith}
use Rattle.smap_functions.specs.declared.lines.Line.{Line}
use Rattle.smap_functions.proofs.LineLemmas.{on_line, on_no_line}
use Rattle.smap_functions.proofs.lines.place.Goals as goal

pub returns-then-line-lines : goal.returns-then-line-lines
returns-then-line-lines c = λ are.
    on_no_line c.args.source.now c.args.lines.now c.args.line c.args.column are (omega arith)

pub returns : goal.returns
returns c = λ are.
    let d : Line = record { start = 0; plain = 0; end = 0 } in
    on_line c.args.source.now c.args.lines.now c.args.line c.args.column d c.place_at.result are
    (omega arith) c.place_at.ensures
