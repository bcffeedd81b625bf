use Rattle.std.proofs.Common.{◌∙◌, ap, sym, get_or, cond, [], ◌∷◌, ◌++◌, ◌+◌}
use Rattle.std.proofs.lemmas.List.{take_rest}
use Rattle.smap_logs.specs.Looking.{ends_name, name_with}
use Rattle.smap_logs.specs.declared.looking.Name.{Name}
use Rattle.smap_logs.proofs.NameLemmas.{name_more, one_more_byte}
use Rattle.smap_logs.proofs.looking.holds_position.Goals as goal

pub loop-at-preserved : goal.loop-at-preserved
loop-at-preserved c =
    let read = c.loop-at.invariant.0 in
    let line = c.args.line.now in
    let b = get_or line c.loop-at.at 0 in (
      cond (ends_name b) [] (read ++ b ∷ []),
      c.name_with-name.ensures ∙ ap (λ (n : Name). name_with n b) c.loop-at.invariant.1 ∙ name_more read b,
      one_more_byte line read _ c.loop-at.at c.loop-at-test.true
          (take_rest line (c.loop-at.at + 1))
          (sym (c.begins_position.ensures read c.loop-at.invariant.1) ∙ c.if-begins_position.false)
          c.loop-at.invariant.2,
    )
