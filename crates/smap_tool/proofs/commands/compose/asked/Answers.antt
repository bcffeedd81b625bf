use Rattle.std.proofs.Common.{◌∙◌, ap}
use Rattle.std.specs.Prelude.{if◌then◌else◌}
use Rattle.std.proofs.lemmas.Result.{IfOk-weaker}
use Rattle.smap_record.specs.Record.{Record}
use Rattle.smap_compose.specs.Using.{used}
use Rattle.smap_tool.proofs.commands.compose.asked.Goals as goal

pub returns : goal.returns
returns c = IfOk-weaker c.used_if.result _ _ (λ m h. h
    ∙ ap (λ (r : Record). if c.args.options.used then used r else r) c.in_ok-thin.ensures) c.used_if.ensures
