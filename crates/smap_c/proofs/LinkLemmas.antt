-- Answers that are known but for a want of memory.
use Rattle.std.proofs.Common.{◌≡◌, ◌⊎◌, inr, ⊎_elim, ℕ, Option, Some, None, Ok, Err}
use Rattle.std.proofs.Common.{subst}
use Rattle.std.specs.Prelude.{Result}
use Rattle.std.specs.declared.option.Option.TheVariants as o
use Rattle.std.specs.declared.result.Result.TheVariants as r
use Rattle.std.specs.Global.{Vec}
use Rattle.smap_c_answers.specs.Codes as codes
use Rattle.smap_c_answers.specs.Answers.{Answer, IsAnswer, answer_of}
use Rattle.smap_c.specs.Links.{Gives}

-- memory ran out, whatever the answer is
without_memory : (said : Answer) (old new : Option (Vec ℕ)) (code : ℕ)
    → (new ≡ old) × ((code ≡ codes.MEMORY) ⊎ (code ≡ codes.MEMORY)) → Gives said old new code
without_memory (r.Ok (o.Some bytes)) old new code is = inr (is.0, ⊎_elim (λ e. e) (λ e. e) is.1)
without_memory (r.Ok o.None) old new code is = (is.0, inr (⊎_elim (λ e. e) (λ e. e) is.1))
without_memory (r.Err fault) old new code is = (is.0, inr (⊎_elim (λ e. e) (λ e. e) is.1))

pub given : (answer : Result (Option (Vec ℕ)) ℕ) (said : Answer) (old new : Option (Vec ℕ)) (code : ℕ)
    → IsAnswer answer said → Gives (answer_of answer) old new code → Gives said old new code
given answer said old new code is gives =
    ⊎_elim (λ same. subst (λ (a : Answer). Gives a old new code) same gives)
    (λ memory. without_memory said old new code
    (subst (λ (a : Answer). Gives a old new code) memory gives)) is
