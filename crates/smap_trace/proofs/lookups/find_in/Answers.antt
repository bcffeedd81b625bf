use Rattle.std.proofs.Common.{◌∙◌, arith, sym}
use Rattle.smap_record.specs.Record.{record_of}
use Rattle.smap_trace.proofs.LineStartLemmas.{line_part}
use Rattle.smap_trace.proofs.LookupLemmas.{in_order}
use Rattle.smap_trace.proofs.lookups.find_in.Goals as goal

pub find_between-requires : goal.find_between-requires
find_between-requires c =
    let sorted = in_order c.args.map.now.listing c.token_count-count.ensures.listing in
    let is = line_part (record_of c.args.map.now).mappings c.args.starts.now c.args.line c.args.column
    c.in-Some.from c.in-Some.to sorted c.requires (sym c.of_line.ensures ∙ c.in-Some.is) in
    record { within = is.within; known = is.known }

pub returns-in-Some-clause-most : goal.returns-in-Some-clause-most
returns-in-Some-clause-most c =
    let sorted = in_order c.args.map.now.listing c.token_count-count.ensures.listing in
    let is = line_part (record_of c.args.map.now).mappings c.args.starts.now c.args.line c.args.column
    c.in-Some.from c.in-Some.to sorted c.requires (sym c.of_line.ensures ∙ c.in-Some.is) in
    omega (arith, c.find_between.ensures.most, is.within)
