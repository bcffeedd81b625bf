use Rattle.std.proofs.Common.{◌-◌, arith, drop, length, refl}
use Rattle.std.proofs.lemmas.Option.{slice_get_read}
use Rattle.smap_record.specs.Record.{record_of}
use Rattle.smap_compose.specs.Chain.{links_of}
use Rattle.smap_compose.proofs.ClosingLemmas.{here_too_many, none_too_many, one_before, some_before}
use Rattle.smap_compose.proofs.LeadingLemmas.{link_at}
use Rattle.smap_compose.proofs.chain.close_all.Goals as goal

pub returns-in-Err-clause-refused : goal.returns-in-Err-clause-refused
returns-in-Err-clause-refused c = λ is.
    let links = c.args.links.now in
    let n = c.loop-left.left in
    let link = c.index-links-left.result in
    let at = slice_get_read links (length links) (n - 1) link refl
    (let within = c.loop-left.invariant.within in omega (arith, within, c.loop-left-test.true))
    c.index-links-left.is in
    let next = one_before (links_of links) n (link.0.now, record_of link.1) c.loop-left-test.true
    (link_at links (n - 1) link at) in
    some_before c.args.limits (n - 1) (links_of links) (rw next (here_too_many c.args.limits
    (link.0.now, record_of link.1) (drop n (links_of links))
    (c.in-Err.ensures.refused (drop n (links_of links)) c.loop-left.invariant.closed is)))

pub loop-left-preserved : goal.loop-left-preserved
loop-left-preserved c =
    let links = c.args.links.now in
    let n = c.loop-left.left in
    let link = c.index-links-left.result in
    let at = slice_get_read links (length links) (n - 1) link refl
    (let within = c.loop-left.invariant.within in omega (arith, within, c.loop-left-test.true))
    c.index-links-left.is in
    let later = drop n (links_of links) in
    let next = one_before (links_of links) n (link.0.now, record_of link.1) c.loop-left-test.true
    (link_at links (n - 1) link at) in
    record {
      within = let within = c.loop-left.invariant.within in omega (arith, within);
      closed = rw next (c.in_ok-closed.ensures later (record_of link.1) c.loop-left.invariant.closed
          (c.in-Ok.ensures.record later c.loop-left.invariant.closed));
      few = rw next (none_too_many c.args.limits (link.0.now, record_of link.1) later
          (c.in-Ok.ensures.few later c.loop-left.invariant.closed) c.loop-left.invariant.few);
    }
