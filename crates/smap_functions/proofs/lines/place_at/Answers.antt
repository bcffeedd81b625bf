use Rattle.std.proofs.Common.{◌-◌, ap, arith, drop, take}
use Rattle.smap_functions.proofs.LineLemmas.{at_line, line_end-le, row_of_line}
use Rattle.smap_functions.specs.declared.lines.Line.{Line}
use Rattle.smap_functions.proofs.lines.place_at.Goals as goal
use Rattle.smap_functions.proofs.lines.place_at.Goals.{then-line-via-then-line}
use Rattle.smap_functions.proofs.lines.place_at.Goals.{then-line-via-else-line+then-line-source}

pub returns-then-line : goal.returns-then-line
returns-then-line c = λ start le is.
    let starts = ap (λ (l : Line). l.start) is in
    let ends = ap (λ (l : Line). l.end) is in
    let within = line_end-le c.args.source.now start le in
    elim c.then-line.branch [
      | then-line-via-then-line w ↦ absurd (omega arith)
      | then-line-via-else-line+then-line-source w ↦ absurd (omega arith)
    ]

pub returns : goal.returns
returns c = λ start le is.
    let source = c.args.source.now in
    let line = c.args.line in
    at_line source line c.args.column start (take (line.end - line.start) (drop line.start source))
    c.place_in.result c.shifted.result is (row_of_line source line start is) le (omega arith)
    c.place_in.ensures
    c.shifted.ensures
