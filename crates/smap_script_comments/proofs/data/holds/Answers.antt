use Rattle.std.proofs.Common.{sym, true≢false, ap, ◌∙◌, Ok, Some}
use Rattle.std.proofs.lemmas.Slice.Eq.{bytes_eq-Decides}
use Rattle.smap_script_comments.proofs.data.holds.Goals as goal

pub returns-in-None : goal.returns-in-None
returns-in-None c = λ is. absurd (true≢false (sym is))

pub returns-in-Some : goal.returns-in-Some
returns-in-Some c = λ is.
    let read = c.in_ok-read.ensures.value in
    record {
      engine = read.0;
      forgiving = read.1;
      held = sym (rw c.in-Some.is at read.2)
          ∙ ap (λ bytes. Ok (Some bytes)) (sym c.as_slice.ensures.value
          ∙ (bytes_eq-Decides c.as_slice.result.now c.args.map.now).0 (sym c.eq.ensures ∙ is));
    }
