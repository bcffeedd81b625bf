use Rattle.std.proofs.Common.{◌≡◌, ◌∙◌, ◌+◌, ◌∷◌, ◌++◌, [], Bool, Err, List, Ok, ap, false, length, rules}
use Rattle.std.proofs.Common.{subst, sym}
use Rattle.std.proofs.Common.{true, ℕ}
use Rattle.std.specs.Prelude.{bytes_eq}
use denote.Ref.{Bor}
use Rattle.std.proofs.lemmas.List.{length-map}
use Rattle.std.proofs.lemmas.Slice.Eq.{bytes_eq-Decides}
use Rattle.smap_record.specs.Record.{ReadMap, record_of}
use Rattle.smap_record.proofs.ListLemmas.{map-push}
use Rattle.smap_compose.specs.Chain.{Link, links_of}
use Rattle.smap_tool.specs.Links.{LinksSoFar, end_line, entry_in, entry_of, links_from}
use Rattle.smap_tool.proofs.LinkLemmas.{ends_here, first_of, goes_on, stops_here}
use Rattle.smap_tool.proofs.links.links_in.Goals as goal

abbrev link_of : Bor (List ℕ) × ReadMap → Link
link_of l = (l.0.now, record_of l.1)

pub returns-in-Err-clause-refused : goal.returns-in-Err-clause-refused
returns-in-Err-clause-refused c =
    let text = c.args.text.now in
    let items = c.loop-rest.links.items in
    let rest = c.loop-rest.rest.now in
    let long : c.len.result ≡ length items = search (rules, c.len.ensures) in
    let at : c.len.result ≡ length (links_of items) = long ∙ sym (length-map items link_of) in
    let isnt : bytes_eq rest end_line ≡ false = search (rules, c.loop-rest-test.true, c.ne.ensures) in
    first_of (entry_in (c.len.result + 1) rest) (links_from (length text) 1 text) c.in-Err.fault
    (λ f bad. stops_here text (links_of items) rest c.loop-rest.invariant isnt f
    (rw (← at) bad)) c.in-Err.ensures.refused

pub loop-rest-preserved : goal.loop-rest-preserved
loop-rest-preserved c =
    let text = c.args.text.now in
    let items = c.loop-rest.links.items in
    let rest = c.loop-rest.rest.now in
    let e = c.in-Ok.entry in
    let long : c.len.result ≡ length items = search (rules, c.len.ensures) in
    let at : c.len.result ≡ length (links_of items) = long ∙ sym (length-map items link_of) in
    let isnt : bytes_eq rest end_line ≡ false = search (rules, c.loop-rest-test.true, c.ne.ensures) in
    let more : links_of c.push.new.self.items ≡ links_of items ++ (e.script.now, record_of e.map) ∷ [] =
    ap links_of c.in-Ok-push.ensures.items ∙ map-push link_of items (e.script, e.map) in
    subst (λ (ls : List Link). LinksSoFar text ls e.rest.now) (sym more)
    (goes_on text (links_of items) rest c.loop-rest.invariant isnt (entry_of e)
    (rw (← at) c.in-Ok.ensures.entry) c.in-Ok.ensures.shorter)

pub returns-clause-links : goal.returns-clause-links
returns-clause-links c =
    let rest = c.loop-rest.rest.now in
    let is : bytes_eq rest end_line ≡ true = search (rules, c.loop-rest-test.false, c.ne.ensures) in
    ends_here c.args.text.now (links_of c.loop-rest.links.items) rest c.loop-rest.invariant
    ((bytes_eq-Decides rest end_line).0 is)
