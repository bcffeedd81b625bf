use Rattle.std.proofs.Common.{arith, rules}
use Rattle.std.proofs.lemmas.Bool.{eqb-true}
use Rattle.smap_io.proofs.LineLemmas.{line_then, rest_free}
use Rattle.smap_io.proofs.lines.take_piece.Goals as goal

pub lines-preserved : goal.lines-preserved
lines-preserved g c =
    let left = c.lines.left.now in
    let feed = c.in-Some.feed in
    let found = c.in-Some.ensures in
    record {
      within = search rules;
      free = search rules;
      so_far = λ rest new t. c.lines.invariant.so_far rest new
          (line_then (g.E.EachLine.takes c.args.each.now) c.lines.line.items left
          c.take_line.new.line.items rest feed c.lines.so_far c.take_line.new.so_far new
          c.lines.invariant.free (λ i below. found.0.before i (omega arith) below) found.0.high
          (eqb-true _ 10 found.1) c.in_ok-take_line.ensures.takes c.in_ok-take_line.ensures.rest t);
    }

pub returns-clause-rest : goal.returns-clause-rest
returns-clause-rest g c =
    rest_free c.extend_from_slice.result c.lines.line.items c.lines.left.now
    c.extend_from_slice.new.self.items c.lines.invariant.free
    (λ i below. c.in_default.ensures i (omega arith) below) c.extend_from_slice.ensures.items
