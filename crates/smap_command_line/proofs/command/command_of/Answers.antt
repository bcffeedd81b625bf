use Rattle.std.proofs.Common.{◌∙◌, rules}
use Rattle.std.proofs.lemmas.Result.{IfOk-weaker}
use Rattle.clap.specs.Words.{app_of, with_rule}
use Rattle.smap_command_line.specs.Line.{with_option}
use Rattle.smap_command_line.specs.Rows.{row_view}
use Rattle.smap_command_line.proofs.ListLemmas.{fold_end, fold_past}
use Rattle.smap_command_line.proofs.command.command_of.Goals as goal

pub loop-i-preserved : goal.loop-i-preserved
loop-i-preserved c = record {
  local = search rules;
  shape = fold_past with_option row_view (app_of c.loop-i.command) _ _ c.args.rows.now c.loop-i.i _
      c.loop-i-test.true c.in_ok-command.ensures.shape c.loop-i.invariant.shape;
}

pub returns-clause-shape : goal.returns-clause-shape
returns-clause-shape c =
    let all = fold_end with_option row_view (app_of c.loop-i.command) c.args.rows.now c.loop-i.i _
    c.loop-i-test.false c.loop-i.invariant.shape in
    IfOk-weaker c.arg.result _ _
    (λ r h. h.shape c.argument_list.ensures.local
    ∙ (λ j. with_rule (all j) (c.argument_list.ensures.rule j))) c.arg.ensures
