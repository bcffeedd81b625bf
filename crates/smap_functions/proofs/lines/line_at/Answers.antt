use Rattle.std.proofs.Common.{◌+◌, ◌-◌, arith, drop, length, sym, take}
use Rattle.smap_functions.proofs.LineLemmas.{line_end-found, line_end-none, line_end-past, line_len-at}
use Rattle.smap_functions.proofs.LineLemmas.{rest_is}
use Rattle.smap_functions.proofs.lines.line_at.Goals as goal

pub returns-then-len-gt0-clause-end : goal.returns-then-len-gt0-clause-end
returns-then-len-gt0-clause-end c =
    let source = c.args.source.now in
    let at = c.loop-found.at in
    let k = c.in-Some.found in
    let first = c.in-Some.ensures in
    let end = line_end-found source c.args.start at k (take (length source - at) (drop at source))
    (rest_is at source) c.loop-found.invariant.end first.0.high first.0.before in
    let len = rw (rest_is (at + k) source) at c.terminator_len-len.ensures.value in
    let none = line_len-at (drop (at + k) source) (omega arith) in
    omega arith

pub loop-found-preserved : goal.loop-found-preserved
loop-found-preserved c =
    let source = c.args.source.now in
    let at = c.loop-found.at in
    let k = c.in-Some.found in
    let first = c.in-Some.ensures in
    let end = line_end-found source c.args.start at k (take (length source - at) (drop at source))
    (rest_is at source) c.loop-found.invariant.end first.0.high first.0.before in
    let len = rw (rest_is (at + k) source) at c.terminator_len-len.ensures.value in
    record {
      from = omega arith;
      within = omega arith;
      end = line_end-past source c.args.start (at + k) (omega arith) end (omega arith);
    }

pub returns-clause-end : goal.returns-clause-end
returns-clause-end c =
    let source = c.args.source.now in
    let at = c.loop-found.at in
    sym (line_end-none source c.args.start at (take (length source - at) (drop at source)) (rest_is at source)
    c.loop-found.invariant.within c.loop-found.invariant.end c.in_default.ensures)
