use Rattle.std.proofs.Common.{arith}
use Rattle.std.proofs.lemmas.Str.{IsCharBoundary-after_ascii}
use Rattle.smap_command_line.proofs.trace.splits.text_between.Goals as goal

pub range-requires-clause-start_boundary : goal.range-requires-clause-start_boundary
range-requires-clause-start_boundary c = λ _.
    IsCharBoundary-after_ascii c.args.word.now c.args.url_end c.utf8.word
    (omega (arith, c.requires.behind, c.requires.inside)) (omega (arith, c.requires.url_stops))
