-- A URL without that of the folder before it.
use Rattle.std.proofs.Common.{◌≡◌, ◌∙◌, ℕ, List, None, true, false, ap, drop, eqb, refl}
use Rattle.std.proofs.lemmas.Str.Pattern.{starts_text}
use Rattle.std.specs.List.{starts_with}
use Rattle.std.specs.Str.Pattern.{FindsTextPrefix, StripsPrefix}
use Rattle.smap_lint_rules.specs.Findings.{own_part}

pub stripped : (folder url rest : List ℕ) → StripsPrefix (FindsTextPrefix folder) url rest
    → rest ≡ own_part folder url
stripped folder url rest h =
    let starts : true ≡ starts_with eqb url folder =
    starts_text true folder url (h.0, h.1, rw h.1.0 h.1.2) in
    rw (← starts) (h.2 ∙ ap (λ (n : ℕ). drop n url) h.1.0)

pub unstripped : (folder url : List ℕ) → FindsTextPrefix folder url None → url ≡ own_part folder url
unstripped folder url h =
    let starts : false ≡ starts_with eqb url folder = starts_text false folder url h in
    rw (← starts) refl
