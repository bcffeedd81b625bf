use Rattle.std.proofs.Common.{◌≡◌, false, length, rules, true}
use Rattle.std.specs.Prelude.{bytes_eq}
use Rattle.smap_compose.specs.Chain.{links_of}
use Rattle.smap_tool.specs.Links.{chain_in, end_line, entry_in, entry_of, links_from}
use Rattle.smap_tool.proofs.LinkLemmas.{chain_read, first_of, first_refused, links_refused, no_maps}
use Rattle.smap_tool.proofs.links.read_chain.Goals as goal

pub returns-then-eq-clause-chain : goal.returns-then-eq-clause-chain
returns-then-eq-clause-chain c =
    let is : bytes_eq c.args.input.now end_line ≡ true = search (rules, c.if-eq.true, c.eq.ensures) in
    no_maps c.args.input.now is

pub returns-in-Err-clause-refused : goal.returns-in-Err-clause-refused
returns-in-Err-clause-refused c =
    let input = c.args.input.now in
    let isnt : bytes_eq input end_line ≡ false = search (rules, c.if-eq.false, c.eq.ensures) in
    first_of (entry_in 0 input) (chain_in input) c.in-Err.fault (λ f bad. first_refused input isnt f bad)
    c.in-Err.ensures.refused

pub returns-in-Ok-links_in-clause-chain : goal.returns-in-Ok-links_in-clause-chain
returns-in-Ok-links_in-clause-chain c =
    let input = c.args.input.now in
    let isnt : bytes_eq input end_line ≡ false = search (rules, c.if-eq.false, c.eq.ensures) in
    chain_read input isnt (entry_of c.in-Ok.first) c.in-Ok.ensures.entry
    (links_of c.in-Ok-links_in.links.items) c.in-Ok-links_in.ensures.links

pub returns-clause-refused : goal.returns-clause-refused
returns-clause-refused c =
    let input = c.args.input.now in
    let rest = c.in-Ok.first.rest.now in
    let isnt : bytes_eq input end_line ≡ false = search (rules, c.if-eq.false, c.eq.ensures) in
    first_of (links_from (length rest) 1 rest) (chain_in input) c.in-Err-links_in.fault
    (λ f bad. links_refused input isnt (entry_of c.in-Ok.first) c.in-Ok.ensures.entry f bad)
    c.in-Err-links_in.ensures.refused
