use Rattle.std.proofs.Common.{arith}
use Rattle.smap_vlq.proofs.DigitLemmas.{is_digit, is_none}
use Rattle.smap_vlq.proofs.digit.digit_value.Goals as goal

pub returns-then-digit-lt64 : goal.returns-then-digit-lt64
returns-then-digit-lt64 c = is_digit c.args.byte (omega arith) c.if-digit-lt64.true

pub returns-else-digit-lt64 : goal.returns-else-digit-lt64
returns-else-digit-lt64 c = is_none c.args.byte (omega arith) c.if-digit-lt64.false
