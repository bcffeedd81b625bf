use Rattle.std.proofs.Common.{◌∙◌, map, nat_lt, rules}
use Rattle.smap_frames.specs.FormView.{form_in}
use Rattle.smap_frames.specs.Reading.{between, read}
use Rattle.smap_frames.proofs.FrameLemmas.{body_read, no_row, row_gives, row_gives_none}
use Rattle.smap_frames.proofs.frames.body_frame.Goals as goal

pub returns-then-is_some : goal.returns-then-is_some
returns-then-is_some c =
    let start = c.at_len-start.result in
    row_gives (λ form. between (read form (nat_lt 0 start)) c.args.line.now start c.args.end) c.args.rows.now
    c.loop-i.i _ c.read-found.result c.loop-i-test.true c.read-found.ensures c.if-is_some.ensures
    ∙ c.loop-i.invariant
    ∙ body_read (map form_in c.args.rows.now) c.args.line.now c.args.end start (search rules) (search rules)

pub loop-i-preserved : goal.loop-i-preserved
loop-i-preserved c =
    let start = c.at_len-start.result in
    row_gives_none (λ form. between (read form (nat_lt 0 start)) c.args.line.now start c.args.end)
    c.args.rows.now c.loop-i.i _ c.read-found.result c.loop-i-test.true c.read-found.ensures
    c.if-is_some.ensures
    ∙ c.loop-i.invariant

pub returns : goal.returns
returns c =
    let start = c.at_len-start.result in
    no_row (λ form. between (read form (nat_lt 0 start)) c.args.line.now start c.args.end) c.args.rows.now
    c.loop-i.i c.loop-i-test.false
    ∙ c.loop-i.invariant
    ∙ body_read (map form_in c.args.rows.now) c.args.line.now c.args.end start (search rules) (search rules)
