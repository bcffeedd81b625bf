use Rattle.std.proofs.Common.{◌∙◌, Some, ap, sym}
use Rattle.std.specs.Prelude.{option_copied}
use Rattle.smap_trace.specs.NamesView.{mapped_of}
use Rattle.smap_trace.proofs.NameLemmas.{name_by}
use Rattle.smap_trace.proofs.names.name_in.Goals as goal

pub returns-in-Some-place-clause-exact : goal.returns-in-Some-place-clause-exact
returns-in-Some-place-clause-exact c = λ of.
    let same = c.as_bytes-text.ensures.value in
    let content_lines = rw c.in-Some.is at of in
    let lines = rw (← same) at content_lines in
    name_by c.args.source.now.functions (mapped_of c.args.mapped.now) c.as_bytes-text.result.now
    c.in-Some-place.place _ (ap option_copied c.in-Some.is ∙ ap Some (sym same))
    (c.in-Some-place.ensures lines) (c.told_at.ensures.exact lines)
