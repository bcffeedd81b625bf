use Rattle.std.proofs.Common.{◌∙◌, arith, length-drop, ℕ}
use Rattle.std.proofs.lemmas.List.{take_all}
use Rattle.smap_frames.proofs.MarkLemmas.{cut_at_last, no_last}
use Rattle.smap_frames.proofs.frames.split_at_last.Goals as goal

pub returns-in-Some-clause-before : goal.returns-in-Some-clause-before
returns-in-Some-clause-before c = (cut_at_last c.args.mark c.args.text.now c.in-Some.at c.in-Some.ensures).0

pub returns-in-Some-clause-after : goal.returns-in-Some-clause-after
returns-in-Some-clause-after c =
    take_all _ _ (omega (arith, length-drop {A = ℕ}))
    ∙ (cut_at_last c.args.mark c.args.text.now c.in-Some.at c.in-Some.ensures).1

pub returns-in-None-clause-before : goal.returns-in-None-clause-before
returns-in-None-clause-before c = (no_last c.args.mark c.args.text.now c.in-None.ensures).0

pub returns-in-None-clause-after : goal.returns-in-None-clause-after
returns-in-None-clause-after c = (no_last c.args.mark c.args.text.now c.in-None.ensures).1
