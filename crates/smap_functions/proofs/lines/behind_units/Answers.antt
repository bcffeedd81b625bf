use Rattle.std.proofs.Common.{arith}
use Rattle.smap_functions.proofs.ColumnLemmas.{end_place, found_place, none_place, past_place}
use Rattle.smap_functions.proofs.lines.behind_units.Goals as goal

pub returns-then-at-gt-MOST_READ : goal.returns-then-at-gt-MOST_READ
returns-then-at-gt-MOST_READ c = past_place c.args.text.now c.args.column c.loop-at.at (omega arith)
    c.loop-at.invariant.none

pub returns-then-not-continues : goal.returns-then-not-continues
returns-then-not-continues c = found_place c.args.text.now c.args.column c.loop-at.left c.loop-at.at
    (omega arith) (omega arith) c.loop-at.invariant.left_is (omega arith) (cc) c.loop-at.invariant.none

pub returns-then-text-le-MOST_READ : goal.returns-then-text-le-MOST_READ
returns-then-text-le-MOST_READ c = end_place c.args.text.now c.args.column c.loop-at.left c.loop-at.at
    (omega arith) (omega arith) c.loop-at.invariant.left_is (omega arith) c.loop-at.invariant.none

pub returns-else-left-eq0-2 : goal.returns-else-left-eq0-2
returns-else-left-eq0-2 c = elim c.else-left-eq0-2.branch [
  | goal.else-left-eq0-2-via-then-left-eq0-2+else-text-le-MOST_READ w ↦
      past_place c.args.text.now c.args.column c.loop-at.at (omega arith) c.loop-at.invariant.none
  | goal.else-left-eq0-2-via-else-left-eq0-2 w ↦
      none_place c.args.text.now c.args.column c.loop-at.left c.loop-at.at (omega arith)
      c.loop-at.invariant.left_is (omega arith) c.loop-at.invariant.none
]
