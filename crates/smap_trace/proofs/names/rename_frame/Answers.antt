use Rattle.std.proofs.Common.{◌∙◌, ap, sym}
use Rattle.std.specs.Prelude.{option_copied}
use Rattle.smap_trace.specs.Names.{renamed_by}
use Rattle.smap_trace.specs.NamesView.{mapped_of}
use Rattle.smap_trace.proofs.KnownMapLemmas.{is_for, known_on}
use Rattle.smap_trace.proofs.NameLemmas.{content_lines}
use Rattle.smap_trace.proofs.names.rename_frame.Goals as goal

pub returns-in_ok-renamed_in-in-Some-of-clause-exact :
    goal.returns-in_ok-renamed_in-in-Some-of-clause-exact
returns-in_ok-renamed_in-in-Some-of-clause-exact g c = λ are.
    let scripts = g.M.Maps.scripts c.args.maps.now in
    let p = mapped_of c.in-Some.mapped in
    let is = c.in-Some.ensures.value in
    let n = c.in-Some.mapped.original.source_number in
    let at = c.in-Some.ensures.mapped.0.number in
    let known = known_on c.args.ignore_query scripts c.args.text.now p c.args.known.now c.read.new.self n
    is at
    c.in_ok-read.ensures are in
    let source = c.in-Some-of.source.now in
    let here = ap option_copied (sym c.in-Some-of.is) ∙ c.of.ensures in
    let of = known p.frame.url n source p.map p.origin.source (sym here)
    (is_for c.args.ignore_query scripts c.args.text.now p (sym is)) at in
    let given = c.in_ok-renamed_in-in-Some-of.ensures.exact
    (content_lines c.in-Some.mapped.original.source.content source of.0 of.1 of.2)
    ∙ ap (renamed_by p) here in
    (known, rw (← is) (n, at, given))
