use Rattle.std.proofs.Common.{◌≡◌, ◌++◌, List, ap, arith, subst, take}
use Rattle.std.specs.Prelude.{option_copied}
use Rattle.std.proofs.lemmas.List.{take_all}
use Rattle.smap_record.specs.Record.{Entry, record_of}
use Rattle.smap_record.specs.Views.{entry_of_view}
use Rattle.smap_compose.specs.Closed.{AreOpen}
use Rattle.smap_compose.proofs.LeadingLemmas.{one_taken, open_more, open_still}
use Rattle.smap_compose.proofs.leading.with_sources.Goals as goal

pub loop-i-preserved-in_default : goal.loop-i-preserved-in_default
loop-i-preserved-in_default c = λ es are.
    let rs = (record_of c.args.map.now).sources in
    let i = c.loop-i.i in
    let e = entry_of_view c.source.result in
    subst (AreOpen c.loop-i.urls.entries) (one_taken es rs i e c.source.ensures)
    (open_still c.loop-i.urls.entries (es ++ take i rs) e (ap option_copied c.in_default.is)
    (c.loop-i.invariant es are))

pub loop-i-preserved : goal.loop-i-preserved
loop-i-preserved c = λ es are.
    let rs = (record_of c.args.map.now).sources in
    let i = c.loop-i.i in
    let e = entry_of_view c.source.result in
    rw c.in_ok-insert.ensures.entries
    (subst (AreOpen _) (one_taken es rs i e c.source.ensures)
    (open_more c.loop-i.urls.entries c.in-Some.url (es ++ take i rs) e (ap option_copied c.in-Some.is)
    (c.loop-i.invariant es are)))

pub returns : goal.returns
returns c = λ es are.
    let rs = (record_of c.args.map.now).sources in
    let all : take c.loop-i.i rs ≡ rs = take_all c.loop-i.i rs
    (omega (arith, c.loop-i-test.false, c.source_count-i-end.ensures)) in
    subst (λ (xs : List Entry). AreOpen c.loop-i.urls.entries (es ++ xs)) all (c.loop-i.invariant es are)
