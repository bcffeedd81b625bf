use Rattle.std.proofs.Common.{arith}
use Rattle.std.proofs.lemmas.Str.{IsCharBoundary-after_ascii}
use Rattle.smap_command_line.proofs.trace.splits.text_behind.Goals as goal

pub range_from-requires : goal.range_from-requires
range_from-requires c = λ _.
    IsCharBoundary-after_ascii c.args.word.now c.args.at c.utf8.word c.requires.inside
    (omega (arith, c.requires.equals))
