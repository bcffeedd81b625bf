use Rattle.std.proofs.Common.{◌∙◌, [], filter, length, not, refl, sym}
use Rattle.std.proofs.lemmas.Option.{slice_get_read}
use Rattle.smap_record.specs.Record.{Entry, record_of}
use Rattle.smap_compose.specs.Chain.{is_of, links_of}
use Rattle.smap_compose.proofs.LeadingLemmas.{leads_on, link_at, open_less, stops_here}
use Rattle.smap_compose.proofs.leading.first_unled.Goals as goal

pub loop-i-init : goal.loop-i-init
loop-i-init c = record {
  waiting = (record_of c.args.outer.now).sources;
  are = c.in_ok-urls.ensures [] (rw c.new.ensures.empty (λ text. refl));
  left = refl;
}

pub returns-then-not-is_open : goal.returns-then-not-is_open
returns-then-not-is_open c =
    let links = c.args.links.now in
    let link = c.index-links-i.result in
    let at = slice_get_read links (length links) c.loop-i.i link refl c.loop-i-test.true c.index-links-i.is in
    stops_here (record_of c.args.outer.now) (links_of links) c.loop-i.i (link.0.now, record_of link.1)
    c.loop-i.urls.entries c.loop-i.invariant (link_at links c.loop-i.i link at)
    (sym c.is_open.ensures ∙ c.if-not-is_open.true)

pub loop-i-preserved : goal.loop-i-preserved
loop-i-preserved c =
    let links = c.args.links.now in
    let link = c.index-links-i.result in
    let at = slice_get_read links (length links) c.loop-i.i link refl c.loop-i-test.true c.index-links-i.is in
    leads_on (record_of c.args.outer.now) (links_of links) c.loop-i.i (link.0.now, record_of link.1)
    c.loop-i.urls.entries c.loop-i.invariant (link_at links c.loop-i.i link at)
    (sym c.is_open.ensures ∙ c.if-not-is_open.false) c.in_ok-urls-2.urls.entries
    (c.in_ok-urls-2.ensures (filter (λ (e : Entry). not (is_of link.0.now e)) c.loop-i.invariant.waiting)
    (rw c.in_ok-insert.ensures.entries
    (open_less c.loop-i.urls.entries link.0 c.loop-i.invariant.waiting c.loop-i.invariant.are)))
