use Rattle.std.proofs.Common.{◌∙◌, inl, inr, ⊎_elim, ap, sym, ℕ, Err}
use Rattle.smap_c_answers.specs.Answers.{data_answer, data_code}
use Rattle.smap_c_answers.proofs.answers.data_answer.Goals as goal

pub returns-in-Ok : goal.returns-in-Ok
returns-in-Ok c =
    let d = c.in-Ok.ensures.value in
    (d.0, d.1, inl (ap data_answer d.2))

pub returns-in-Err : goal.returns-in-Err
returns-in-Err c =
    let d = c.in-Err.ensures.fault in (
      d.0,
      d.1,
      ⊎_elim (λ memory. inr (ap (λ (n : ℕ). Err n) (c.data_code.ensures ∙ ap data_code memory)))
          (λ is. inl (ap (λ (n : ℕ). Err n) c.data_code.ensures ∙ sym (ap data_answer is))) d.2,
    )
