use Rattle.std.proofs.Common.{arith, rules}
use Rattle.smap_frames.proofs.PlaceLemmas.{zero_first, not_digit, too_large, other_number, is_number}
use Rattle.smap_frames.specs.Frame.{IsPlace}
use Rattle.smap_frames.proofs.frames.place.Goals as goal

pub returns-then-starts_with : goal.returns-then-starts_with
returns-then-starts_with c = zero_first c.args.text.now (search rules)

pub returns-then-not-is_ascii_digit : goal.returns-then-not-is_ascii_digit
returns-then-not-is_ascii_digit c =
    elim c.then-not-is_ascii_digit.branch [
      | goal.then-not-is_ascii_digit-via-then-not-is_ascii_digit w ↦
          not_digit _ _ c.loop-digit.digit-index c.loop-digit-test.true c.loop-digit.invariant.read
          (search rules)
      | goal.then-not-is_ascii_digit-via-else-not-is_ascii_digit+then-number w ↦
          too_large _ _ c.loop-digit.digit-index c.loop-digit-test.true c.loop-digit.invariant.read
          w.if-number.true
    ]

pub returns-then-number-eq0 : goal.returns-then-number-eq0
returns-then-number-eq0 c =
    other_number _ _ c.loop-digit.digit-index c.loop-digit-test.false c.loop-digit.invariant.read
    (λ is. omega (arith, is.0, is.1, c.then-number-eq0.either))

pub returns : goal.returns
returns c =
    let is : IsPlace c.loop-digit.number = (omega arith, omega arith) in
    let read = c.loop-digit.invariant.read in
    (is, is_number _ _ c.loop-digit.digit-index c.loop-digit-test.false read is (search rules))
