use Rattle.smap_view_page.proofs.ReachLemmas.{marked, not_marked}
use Rattle.smap_view_page.proofs.measuring.unmarked.Goals as goal

pub returns-in_default-clause-chars : goal.returns-in_default-clause-chars
returns-in_default-clause-chars c =
    (not_marked c.args.text.now c.utf8.text c.in_default.ensures.cases).0

pub returns-in_default-clause-len : goal.returns-in_default-clause-len
returns-in_default-clause-len c =
    (not_marked c.args.text.now c.utf8.text c.in_default.ensures.cases).1

pub returns-clause-chars : goal.returns-clause-chars
returns-clause-chars c =
    let s = c.in-Some.ensures.cases in
    (marked c.args.text.now c.in-Some.script.now s.0 c.utf8.text s.1.split s.1.ends s.2 s.3).0

pub returns-clause-len : goal.returns-clause-len
returns-clause-len c =
    let s = c.in-Some.ensures.cases in
    (marked c.args.text.now c.in-Some.script.now s.0 c.utf8.text s.1.split s.1.ends s.2 s.3).1
