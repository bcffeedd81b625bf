use Rattle.std.proofs.Common.{Some, ap, sym, ◌∙◌}
use Rattle.std.proofs.lemmas.Slice.Eq.{bytes_eq-Decides}
use Rattle.smap_script_comments.proofs.ids.has_id.Goals as goal

pub returns-in-Some : goal.returns-in-Some
returns-in-Some c = λ is.
    sym (rw c.in-Some.is at c.debug_id.ensures)
    ∙ ap Some ((bytes_eq-Decides c.in-Some.found.now c.args.id.now).0 (sym c.eq.ensures ∙ is))
