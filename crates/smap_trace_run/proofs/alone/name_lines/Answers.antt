use Rattle.smap_trace_run.proofs.AloneLemmas.{text_taken}
use Rattle.smap_trace_run.proofs.alone.name_lines.Goals as goal

pub returns : goal.returns
returns c = text_taken c.args.script.now c.args.lines.now c.new-rest.result.items c.take_piece.new.line.items
    c.new-named.result c.take_piece.new.so_far c.take_last.new.so_far c.new-named.ensures.items
    c.new-rest.ensures.items
    c.in_ok-take_piece.ensures.takes (rw c.deref.ensures.value at c.in_ok-take_last.ensures)
