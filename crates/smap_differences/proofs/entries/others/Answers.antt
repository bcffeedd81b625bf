use Rattle.std.proofs.Common.{string_bytes}
use Rattle.smap_differences.specs.Changes.{other}
use Rattle.smap_differences.proofs.ListLemmas.{told_of}
use Rattle.smap_differences.proofs.entries.others.Goals as goal

pub returns : goal.returns
returns c = told_of other (string_bytes c.loop-text.line) c.args.texts.now c.loop-text.text-index
    c.loop-text-test.false c.loop-text.invariant
