use Rattle.std.proofs.Common.{Some, None, rules}
use Rattle.smap_frames.proofs.PositionLemmas.{number_read}
use Rattle.smap_frames.proofs.places.number_after.Goals as goal

pub returns-in-Some-clause-value : goal.returns-in-Some-clause-value
returns-in-Some-clause-value c =
    number_read c.args.text.now c.digit_count-count.result (Some c.in-Some.number)
    (search rules) c.digit_count-count.ensures.value c.in-Some.ensures

pub returns-in-None-clause-value : goal.returns-in-None-clause-value
returns-in-None-clause-value c = number_read c.args.text.now c.digit_count-count.result None
    (search rules) c.digit_count-count.ensures.value c.in-None.ensures
