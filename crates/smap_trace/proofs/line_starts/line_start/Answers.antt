use Rattle.std.proofs.Common.{arith, map}
use Rattle.smap_record.specs.Record.{mapping_of}
use Rattle.smap_trace.proofs.LineStartLemmas.{no_later, one_later, start_within}
use Rattle.smap_trace.proofs.LookupLemmas.{token_here}
use Rattle.smap_trace.proofs.line_starts.line_start.Goals as goal

pub loop-at-preserved : goal.loop-at-preserved
loop-at-preserved c =
    let l = c.args.map.now.listing in
    let token = c.listed_token.result in
    one_later (map (mapping_of l) l.tokens) c.args.line c.loop-at.at (mapping_of l token) c.loop-at.invariant
    (token_here l c.loop-at.at token c.listed_token.ensures) c.if-listed_token-line.true

pub returns-else-listed_token-line : goal.returns-else-listed_token-line
returns-else-listed_token-line c =
    let l = c.args.map.now.listing in
    let token = c.listed_token.result in
    no_later (map (mapping_of l) l.tokens) c.args.line c.loop-at.at (mapping_of l token) c.loop-at.invariant
    (token_here l c.loop-at.at token c.listed_token.ensures) c.if-listed_token-line.false

pub returns-after-loop-at : goal.returns-after-loop-at
returns-after-loop-at c =
    let l = c.args.map.now.listing in
    let within = start_within (map (mapping_of l) l.tokens) c.args.line in
    omega (arith, within, c.loop-at.invariant)
