use Rattle.std.proofs.Common.{◌≡◌, ◌∙◌, ap, sym, subst, List, ℕ, Ok, Err, ◌⊎◌}
use Rattle.std.specs.Prelude.{IfErr, IfOk, Option, Result, option_map}
use Rattle.std.proofs.lemmas.Bool.{cond-true}
use Rattle.std.proofs.lemmas.List.{take_rest}
use Rattle.smap_link.specs.Paths as spec
use Rattle.smap_link.specs.declared.encoding.PathFault.{PathFault}
use Rattle.smap_link.specs.declared.encoding.PathFault.TheVariants as fault
use Rattle.smap_link.proofs.paths.file_path.Goals as goal

pub returns-then-is_file-clause-value : goal.returns-then-is_file-clause-value
returns-then-is_file-clause-value c =
    let url = c.args.url.now in
    subst (λ (x : Result (Option (List ℕ)) PathFault). IfOk c.path_in.result
    (λ found. Ok (option_map (λ v. v.items) found) ≡ x))
    (ap spec.path_in (c.bare.ensures ∙ ap spec.bare (take_rest url 7))
    ∙ sym (cond-true _ _ _ (sym c.is_file.ensures ∙ c.if-is_file.true))) c.path_in.ensures.value

pub returns-then-is_file-clause-fault : goal.returns-then-is_file-clause-fault
returns-then-is_file-clause-fault c =
    let url = c.args.url.now in
    subst (λ (x : Result (Option (List ℕ)) PathFault). IfErr c.path_in.result
    (λ e. (e ≡ fault.Memory) ⊎ (x ≡ Err e)))
    (ap spec.path_in (c.bare.ensures ∙ ap spec.bare (take_rest url 7))
    ∙ sym (cond-true _ _ _ (sym c.is_file.ensures ∙ c.if-is_file.true))) c.path_in.ensures.fault
