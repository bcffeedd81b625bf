use Rattle.smap_tool.proofs.TranslateLemmas.{whole_run}
use Rattle.smap_tool.specs.Translate.{WritesAsked}
use Rattle.smap_tool.proofs.commands.translate.run_translate_asked.Goals as goal

pub returns-in-Ok-clause-answers : goal.returns-in-Ok-clause-answers
returns-in-Ok-clause-answers g c =
    whole_run g.R.Read.remaining g.W.Write.contents (WritesAsked c.args.names c.args.mode c.args.hide)
    c.args.reader.now c.read_bundle.new.reader c.translate_trace.new.reader c.args.writer.now
    c.translate_trace.new.writer c.in-Ok.bundle c.in-Ok.ensures.takes c.in-Ok.ensures.failures
    c.translate_trace.result c.translate_trace.ensures.translates
