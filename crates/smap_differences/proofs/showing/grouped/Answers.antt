use Rattle.std.proofs.Common.{string_bytes}
use Rattle.smap_differences.proofs.CountLemmas.{grouped_more}
use Rattle.smap_differences.proofs.showing.grouped.Goals as goal

pub loop-i-preserved : goal.loop-i-preserved
loop-i-preserved c =
    grouped_more (string_bytes c.loop-i.text) (string_bytes c.push_digit.new.text) c.range.result.now
    c.args.digits.now c.loop-i.i c.loop-i-test.true c.range.ensures.value c.in_ok-push_digit.ensures
    c.loop-i.invariant
