-- The parts of a data: URL.
use Rattle.std.proofs.Common.{◌≡◌, ◌∙◌, ℕ, ◌+◌, ◌-◌, ◌<◌, ◌≤◌, nat_lt, Bool, true, false, List, length, take}
use Rattle.std.proofs.Common.{drop, ap, sym, subst, arith, Ok, Err}
use Rattle.std.specs.Prelude.{Result}
use Rattle.std.specs.declared.result.Result.TheVariants as r
use Rattle.std.specs.Prelude.{IfOk, IfErr}
use Rattle.std.proofs.lemmas.Bool.{cond-true, cond-false}
use Rattle.std.proofs.lemmas.List.{take_rest}
use Rattle.percent_encoding.specs.Percent.{percent_decode}
use Rattle.base64.specs.declared.engine.general_purpose.GeneralPurpose.{GeneralPurpose}
use Rattle.smap_link.specs.Inline as spec
use Rattle.smap_link.specs.declared.inline.InlineFault.{InlineFault}
use Rattle.smap_link.specs.declared.inline.InlineFault.TheVariants as fault

lt_true : (a b : ℕ) → a < b → nat_lt a b ≡ true
lt_true a b lt = grind arith

not_lt : (a b : ℕ) → b ≤ a → nat_lt a b ≡ false
not_lt a b le = grind arith

pub no_comma : (e : GeneralPurpose) (rest : List ℕ) (at : ℕ) → at ≡ spec.comma rest → length rest ≤ at
    → spec.of_data e rest ≡ Err fault.Form
no_comma e rest at is le = cond-false _ _ _
    (not_lt (spec.comma rest) (length rest) (subst (λ (n : ℕ). length rest ≤ n) is le))

pub body_is : (e : GeneralPurpose) (rest : List ℕ) (at : ℕ) (b : Bool) → at ≡ spec.comma rest
    → at < length rest
    → b ≡ spec.is_base64 (take at rest)
    → spec.body_of e b (percent_decode (take (length rest - (at + 1)) (drop (at + 1) rest)))
    ≡ spec.of_data e rest
body_is e rest at b is lt says =
    ap (λ (l : List ℕ). spec.body_of e b (percent_decode l)) (take_rest rest (at + 1))
    ∙ ap (λ (t : Bool). spec.body_of e t (percent_decode (drop (at + 1) rest))) says
    ∙ ap (λ (n : ℕ). spec.body_of e (spec.is_base64 (take n rest)) (percent_decode (drop (n + 1) rest))) is
    ∙ sym (cond-true _ _ _
    (lt_true (spec.comma rest) (length rest) (subst (λ (n : ℕ). n < length rest) is lt)))

pub map_is : (e : GeneralPurpose) (url : List ℕ) → spec.is_data url ≡ true
    → spec.some_map (spec.of_data e (spec.without_fragment (take (length url - 5) (drop 5 url))))
    ≡ spec.inline_map e url
map_is e url is =
    ap (λ (l : List ℕ). spec.some_map (spec.of_data e (spec.without_fragment l))) (take_rest url 5)
    ∙ sym (cond-true _ _ _ is)

pub if_ok : {A : Type 0} (answer : Result A InlineFault) (P Q : A → Type 0) → ((a : A) → P a → Q a)
    → IfOk answer P → IfOk answer Q
if_ok (r.Ok a) P Q f p = f a p
if_ok (r.Err e) P Q f p = p

pub if_err : {A : Type 0} (answer : Result A InlineFault) (P Q : InlineFault → Type 0)
    → ((e : InlineFault) → P e → Q e)
    → IfErr answer P → IfErr answer Q
if_err (r.Ok a) P Q f p = p
if_err (r.Err e) P Q f p = f e p
