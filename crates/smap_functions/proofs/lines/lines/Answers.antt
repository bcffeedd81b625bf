use Rattle.std.proofs.Common.{arith}
use Rattle.smap_functions.proofs.LineLemmas.{are-all, are-more, are-none, behind-next, behind-none, line_is}
use Rattle.smap_functions.proofs.lines.lines.Goals as goal

pub loop-lines-init : goal.loop-lines-init
loop-lines-init c = record {
  within = omega arith;
  so_far = rw c.new-lines.ensures.items (are-none
      c.args.source.now);
}

pub loop-lines-preserved : goal.loop-lines-preserved
loop-lines-preserved c =
    let source = c.args.source.now in
    let start = c.loop-lines.start in
    let found = c.line_at-found.result in
    let same = line_is source start found.end c.plain_len.result c.line_at-found.ensures.end
    c.plain_len.ensures in
    let next = behind-next source start found.end found.next c.line_at-found.ensures.end
    c.line_at-found.ensures.next c.if-found.false in
    record {
      within = omega arith;
      so_far = rw (c.in_ok-push.ensures.items, same)
          (are-more source c.loop-lines.lines.items start found.next c.loop-lines.invariant.so_far next);
    }

pub returns-then-found : goal.returns-then-found
returns-then-found c =
    let source = c.args.source.now in
    let start = c.loop-lines.start in
    let found = c.line_at-found.result in
    let same = line_is source start found.end c.plain_len.result c.line_at-found.ensures.end
    c.plain_len.ensures in
    let last = behind-none source start found.end found.next c.line_at-found.ensures.end
    c.line_at-found.ensures.next c.if-found.true in
    rw (c.in_ok-push.ensures.items, same)
    (are-all source c.loop-lines.lines.items start c.loop-lines.invariant.so_far last)
