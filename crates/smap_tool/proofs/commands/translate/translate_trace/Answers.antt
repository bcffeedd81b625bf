use Rattle.smap_tool.proofs.TranslateLemmas.{by_fates, by_given}
use Rattle.smap_tool.specs.Translate.{fates_asked, named_asked}
use Rattle.smap_tool.proofs.commands.translate.translate_trace.Goals as goal

pub returns-then-names-clause-translates : goal.returns-then-names-clause-translates
returns-then-names-clause-translates g c = rw (c.if-names.true, c.answer_of.ensures)
    (by_given (named_asked c.args.mode c.args.hide) c.args.bundle.now _ c.translate_named_in.result
    (rw c.scripts-scripts.ensures.scripts at c.translate_named_in.ensures.gives))

pub returns-clause-translates : goal.returns-clause-translates
returns-clause-translates g c = rw (c.if-names.false, c.answer_of-2.ensures)
    (by_fates (fates_asked c.args.mode c.args.hide) c.args.bundle.now _ c.translate_in.result
    (rw c.scripts-scripts.ensures.scripts at c.translate_in.ensures.translates))
