use Rattle.std.proofs.Common.{arith}
use Rattle.smap_vlq.specs.Number.{unsigned_spelling}
use Rattle.smap_vlq.proofs.SpellingLemmas.{goes_on, ends, full}
use Rattle.smap_vlq.proofs.spelling.spell_unsigned.Goals as goal

pub returns-then-left-lt32-clause-text : goal.returns-then-left-lt32-clause-text
returns-then-left-lt32-clause-text c = rw c.byte_of.ensures (ends (unsigned_spelling c.args.unsigned)
    c.args.out.now c.loop-i.out c.args.at c.loop-i.i c.loop-i.left c.loop-i.invariant c.loop-i-test.true
    c.if-left-lt32.true)

pub loop-i-preserved : goal.loop-i-preserved
loop-i-preserved c = rw c.byte_of-in-loop-i.ensures (goes_on (unsigned_spelling c.args.unsigned)
    c.args.out.now c.loop-i.out c.args.at c.loop-i.i c.loop-i.left c.loop-i.invariant c.loop-i-test.true
    c.if-left-lt32.false)

pub returns-clause-text : goal.returns-clause-text
returns-clause-text c = full (unsigned_spelling c.args.unsigned) c.args.out.now c.loop-i.out c.args.at
    c.loop-i.i c.loop-i.left c.loop-i.invariant (omega arith)
