-- The command line of a program, as a simple command in the sense of `clap`'s specification: which words are
-- options, which of them have a value, and that all other words are arguments.
use Rattle.std.specs.Prelude.{true, List, Option, Some, None, codes, fold, if◌then◌else◌}
use Rattle.clap.specs.Words.{App, Rule, Text, new_app, new_rule, with_rule}
use Rattle.clap.specs.declared.builder.action.ArgAction.{ArgAction}
use Rattle.clap.specs.declared.builder.action.ArgAction.TheVariants.{Append, SetTrue}
use Rattle.smap_command_line.specs.Rows.{OptionRow, is_flag}

abbrev pub action_for : OptionRow → Option ArgAction
action_for o = if is_flag o then Some SetTrue else (if o.repeats then Some Append else None)

-- an option by its names alone
abbrev pub named : OptionRow → Rule
named o = record (new_rule o.name) {
  long = if o.long then Some o.name else None;
  short = o.short;
}

-- and with what it takes
abbrev pub rule_for : OptionRow → Rule
rule_for o = record (named o) { action = action_for o; value_names = if is_flag o then 0 else 1 }

-- all words that are no options
abbrev pub argument_rule : Rule
argument_rule = record (new_rule (codes "argument")) { action = Some Append }

-- No options yet but `--help` and `--version`. Of an option that is repeated the last counts.
abbrev pub alone : Text → App
alone name = record (new_app name) {
  top = record (new_app name).top {
    has_version = true;
    args_override_self = true;
  };
}

abbrev pub with_option : App → OptionRow → App
with_option a o = with_rule a (rule_for o)

abbrev pub line_of : Text → List OptionRow → App
line_of name options = with_rule (fold with_option (alone name) options) argument_rule
