use Rattle.std.proofs.Common.{◌∙◌, ap, Some, sym}
use Rattle.smap_record.specs.Record.{record_of}
use Rattle.smap_lint_rules.proofs.ContentLemmas.{leads_by}
use Rattle.smap_lint_rules.proofs.contents.leads_past.Goals as goal

pub returns-in-Some : goal.returns-in-Some
returns-in-Some c = leads_by c.args.map.now c.args.widths.now (record_of c.args.map.now).mappings c.args.i
    c.token.result c.in-Some.original c.requires.widths c.token.ensures.mapping c.in-Some.is
    (rw c.in-Some.is at c.token.ensures.number) ∙ ap (λ b. Some b) (sym c.is_past_source.ensures)
