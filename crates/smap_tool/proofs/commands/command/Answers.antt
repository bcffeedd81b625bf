use Rattle.std.proofs.Common.{◌∙◌, ap, ap₂}
use Rattle.std.proofs.lemmas.Result.{IfOk-weaker}
use Rattle.clap.specs.Words.{App, Shape, with_subcommand}
use Rattle.smap_tool.proofs.commands.command.Goals as goal

abbrev top_of : App → Shape
top_of a = a.top

pub returns-clause-shape : goal.returns-clause-shape
returns-clause-shape c =
    let first = c.in_ok-command.ensures.shape ∙ ap₂ with_subcommand c.alone.ensures.shape
    (ap top_of c.respell_command.ensures.shape) in
    let second = c.in_ok-command-2.ensures.shape ∙ ap₂ with_subcommand first
    (ap top_of c.in_ok-check_command.ensures.shape) in
    let third = c.in_ok-command-3.ensures.shape ∙ ap₂ with_subcommand second
    (ap top_of c.in_ok-tidy_command.ensures.shape) in
    let fourth = c.in_ok-command-4.ensures.shape ∙ ap₂ with_subcommand third
    (ap top_of c.in_ok-flatten_command.ensures.shape) in
    let fifth = c.in_ok-command-5.ensures.shape ∙ ap₂ with_subcommand fourth
    (ap top_of c.in_ok-lookup_command.ensures.shape) in
    let sixth = c.in_ok-command-6.ensures.shape ∙ ap₂ with_subcommand fifth
    (ap top_of c.in_ok-translate_command.ensures.shape) in
    let seventh = c.in_ok-command-7.ensures.shape ∙ ap₂ with_subcommand sixth
    (ap top_of c.scripts_command.ensures.shape) in
    IfOk-weaker c.with-8.result _ _ (λ r h. h ∙ ap₂ with_subcommand seventh
    (ap top_of c.in_ok-compose_command.ensures.shape)) c.with-8.ensures.shape
