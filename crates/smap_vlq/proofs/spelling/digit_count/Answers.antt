use Rattle.std.proofs.Common.{arith}
use Rattle.smap_vlq.proofs.ShortestLemmas.{spelling-digits}
use Rattle.smap_vlq.proofs.spelling.digit_count.Goals as goal

pub returns-then-unsigned-clause-len : goal.returns-then-unsigned-clause-len
returns-then-unsigned-clause-len c =
    spelling-digits 0 c.args.unsigned (omega arith) (omega arith) (λ some. omega arith)

pub returns-then-unsigned-2-clause-len : goal.returns-then-unsigned-2-clause-len
returns-then-unsigned-2-clause-len c =
    spelling-digits 1 c.args.unsigned (omega arith) (omega arith) (λ some. omega arith)

pub returns-then-unsigned-3-clause-len : goal.returns-then-unsigned-3-clause-len
returns-then-unsigned-3-clause-len c =
    spelling-digits 2 c.args.unsigned (omega arith) (omega arith) (λ some. omega arith)

pub returns-then-unsigned-4-clause-len : goal.returns-then-unsigned-4-clause-len
returns-then-unsigned-4-clause-len c =
    spelling-digits 3 c.args.unsigned (omega arith) (omega arith) (λ some. omega arith)

pub returns-then-unsigned-5-clause-len : goal.returns-then-unsigned-5-clause-len
returns-then-unsigned-5-clause-len c =
    spelling-digits 4 c.args.unsigned (omega arith) (omega arith) (λ some. omega arith)

pub returns-then-unsigned-6-clause-len : goal.returns-then-unsigned-6-clause-len
returns-then-unsigned-6-clause-len c =
    spelling-digits 5 c.args.unsigned (omega arith) (omega arith) (λ some. omega arith)

pub returns-else-unsigned-6-clause-len : goal.returns-else-unsigned-6-clause-len
returns-else-unsigned-6-clause-len c =
    spelling-digits 6 c.args.unsigned (omega arith) (omega arith) (λ some. omega arith)
