use Rattle.std.proofs.Common.{Some, ap, sym, ◌∙◌}
use Rattle.std.proofs.lemmas.Slice.Eq.{bytes_eq-Decides}
use Rattle.smap_script_comments.proofs.comments.names.Goals as goal

pub returns-in-Some : goal.returns-in-Some
returns-in-Some c = λ is.
    sym (rw c.in-Some.is at c.link_in.ensures)
    ∙ ap Some ((bytes_eq-Decides c.in-Some.found.now c.args.url.now).0 (sym c.eq.ensures ∙ is))
