use Rattle.std.proofs.Common.{◌-◌, arith, map}
use Rattle.smap_record.specs.Record.{mapping_of}
use Rattle.smap_trace.proofs.LookupLemmas.{in_order, last_counted, last_elsewhere, none_counted, token_here}
use Rattle.smap_trace.proofs.lookups.find_between.Goals as goal

pub search_between-n-requires-clause-sorted : goal.search_between-n-requires-clause-sorted
search_between-n-requires-clause-sorted c = in_order c.args.map.now.listing c.token_count.ensures.listing

pub returns-then-listed_token-line-clause-found : goal.returns-then-listed_token-line-clause-found
returns-then-listed_token-line-clause-found c =
    let l = c.args.map.now.listing in
    let i = c.search_between-n.result - 1 in
    let token = c.listed_token.result in
    last_counted (map (mapping_of l) l.tokens) c.args.line c.args.column
    (in_order l c.token_count.ensures.listing) i (mapping_of l token) (omega arith)
    (token_here l i token c.listed_token.ensures) c.if-listed_token-line.true

pub returns-else-n-gt0-clause-found : goal.returns-else-n-gt0-clause-found
returns-else-n-gt0-clause-found c =
    let l = c.args.map.now.listing in
    let ms = map (mapping_of l) l.tokens in
    let sorted = in_order l c.token_count.ensures.listing in
    elim c.else-n-gt0.branch [
      | goal.else-n-gt0-via-then-n-gt0+else-listed_token-line w ↦
          let i = c.search_between-n.result - 1 in
          let token = w.listed_token.result in
          last_elsewhere ms c.args.line c.args.column sorted i (mapping_of l token) (omega arith)
          (token_here l i token w.listed_token.ensures) w.if-listed_token-line.false
      | goal.else-n-gt0-via-else-n-gt0 w ↦
          none_counted ms c.args.line c.args.column sorted (omega arith)
    ]
