use Rattle.std.proofs.Common.{None, Some, arith}
use Rattle.smap_link.proofs.LineLemmas.{link_here, no_link, earlier}
use Rattle.smap_link.proofs.comment.said_in.Goals as goal

pub returns-in-Missing : goal.returns-in-Missing
returns-in-Missing c =
    let made = c.line_start-start.result in
    link_here c.args.two c.args.text.now c.lines.end made.0 made.1 None c.lines.invariant.0
    c.lines.invariant.1 c.line_start-start.ensures c.in-Missing.ensures

pub returns-in-Url : goal.returns-in-Url
returns-in-Url c =
    let made = c.line_start-start.result in
    link_here c.args.two c.args.text.now c.lines.end made.0 made.1 (Some c.in-Url.url.now) c.lines.invariant.0
    c.lines.invariant.1 c.line_start-start.ensures c.in-Url.ensures

pub returns-then-start-eq0 : goal.returns-then-start-eq0
returns-then-start-eq0 c =
    let made = c.line_start-start.result in
    no_link c.args.two c.args.text.now c.lines.end made.0 made.1 c.lines.invariant.0 c.lines.invariant.1
    c.line_start-start.ensures (omega arith) c.in-Nothing.ensures

pub lines-preserved : goal.lines-preserved
lines-preserved c =
    let made = c.line_start-start.result in
    earlier c.args.two c.args.text.now c.lines.end made.0 made.1 c.lines.invariant.0 c.lines.invariant.1
    c.line_start-start.ensures (omega arith) c.in-Nothing.ensures
