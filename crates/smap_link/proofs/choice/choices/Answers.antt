use Rattle.std.proofs.Common.{◌≡◌, ◌∙◌, ◌<◌, ◌+◌, ◌++◌, ℕ, List, Bor, [], ap, sym, map, length, get_or}
use Rattle.std.proofs.Common.{drop, append_assoc, arith}
use Rattle.std.proofs.lemmas.List.{drop_more, length-map}
use Rattle.smap_link.specs.Choice as spec
use Rattle.smap_link.proofs.TableLemmas.{read_at}
use Rattle.smap_link.proofs.choice.choices.Goals as goal

pub loop-i-preserved : goal.loop-i-preserved
loop-i-preserved c = λ scripts is.
    let names = map {A = Bor (List ℕ)} {B = List ℕ} (λ s. s.now) c.args.names.now in
    let i = c.loop-i.i in
    let m = c.args.may_be_alike in
    let so_far = c.loop-i.invariant scripts is in
    let some : i < length names = simp length-map (omega (arith, c.loop-i-test.true)) in
    let one = read_at c.args.names.now i _ c.loop-i-test.true in
    let script : c.in_ok-script.script ≡ spec.meant m scripts (get_or names i []) =
    c.in_ok-script.ensures.value scripts so_far.0 ∙ ap (spec.meant m scripts) one in
    let rest = spec.choices_from m scripts (i + 1) (drop (i + 1) names) in (
      c.in_ok-script.ensures.table scripts so_far.0,
      ap (λ (l : List _). l ++ rest) (c.in_ok-add_choice.ensures
          ∙ ap (λ o. c.loop-i.found.items ++ spec.choice_at i o) script)
          ∙ append_assoc c.loop-i.found.items (spec.choice_at i (spec.meant m scripts (get_or names i [])))
          rest
          ∙ ap (λ l. c.loop-i.found.items ++ spec.choices_from m scripts i l)
          (sym (drop_more names i [] some))
          ∙ so_far.1,
    )
