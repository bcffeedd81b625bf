use Rattle.std.proofs.Common.{drop, take, sym}
use Rattle.smap_trace.proofs.CuttingLemmas.{all_bytes, byte_next, found_next}
use Rattle.std.proofs.lemmas.List.{take_rest}
use Rattle.smap_trace.proofs.anywhere.next_occurrence.Goals as goal

pub returns-then-not-holds_place : goal.returns-then-not-holds_place
returns-then-not-holds_place g c =
    let text = c.args.text.now in
    let none = rw (take_rest text c.args.at) at c.if-not-holds_place.ensures in
    all_bytes c.args.ignore_query (g.M.Maps.scripts c.args.maps.now) (take c.args.at text)
    (drop c.args.at text) (sym none)

pub returns-in-Some : goal.returns-in-Some
returns-in-Some g c = found_next c.args.ignore_query (g.M.Maps.scripts c.args.maps.now) c.args.text.now
    c.args.at c.loop-start.start c.in-Some.found c.loop-start.auto.start c.loop-start-test.true
    c.in-Some.ensures.within c.in-Some.ensures.value c.loop-start.invariant

pub loop-start-preserved : goal.loop-start-preserved
loop-start-preserved g c = byte_next c.args.ignore_query (g.M.Maps.scripts c.args.maps.now) c.args.text.now
    c.args.at c.loop-start.start c.loop-start.auto.start c.loop-start-test.true
    c.in_default.ensures.value c.loop-start.invariant
