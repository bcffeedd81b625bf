use Rattle.smap_tool.specs.Compose.{compose_output}
use Rattle.smap_tool.proofs.RunLemmas.{answered}
use Rattle.smap_tool.proofs.commands.compose.run_compose.Goals as goal

pub returns-clause-answers : goal.returns-clause-answers
returns-clause-answers g c =
    answered g.R.Read.remaining g.W.Write.contents c.args.reader.now c.read_input.new.reader
    c.args.writer.now c.write_answer.new.writer (compose_output c.args.options) c.in_ok-input.input
    c.deref-2.result.now c.in_ok-text.text.items c.in_ok-text.outcome c.write_answer.result
    c.in_ok-input.ensures.reads c.deref-2.ensures.value
    (rw c.deref.ensures.value at c.in_ok-text.ensures) c.write_answer.ensures.writes
