-- What a program's options are, by the rows of its table.
use Rattle.std.specs.Prelude.{ℕ, Bool, true, false, List, map}
use Rattle.std.specs.Borrow.{Bor}
use Rattle.smap_command_line.specs.declared.rows.Commands.{Commands}
use Rattle.smap_command_line.specs.declared.rows.MapsCommand.{MapsCommand}
use Rattle.smap_command_line.specs.declared.rows.MapsCommand.TheVariants as command
use Rattle.smap_command_line.specs.declared.rows.OptionOf.{OptionOf}
use Rattle.smap_command_line.specs.declared.rows.Value.{Value}
use Rattle.smap_command_line.specs.declared.rows.Value.TheVariants as value

-- an option by its texts
abbrev pub OptionRow : Type 0
OptionRow = OptionOf (List ℕ)

abbrev pub with_texts : {T : Type 0} → (T → List ℕ) → OptionOf T → OptionRow
with_texts text o = record {
  name = text o.name;
  long = o.long;
  short = o.short;
  value = o.value;
  value_name = text o.value_name;
  expected = text o.expected;
  repeats = o.repeats;
  commands = o.commands;
  help = text o.help;
  details = text o.details;
}

abbrev pub row_view : OptionOf (Bor (List ℕ)) → OptionRow
row_view o = with_texts (λ s. s.now) o

abbrev pub rows_view : List (OptionOf (Bor (List ℕ))) → List OptionRow
rows_view = map row_view

-- ---- texts of constants, which are references to nowhere

abbrev pub Constant : Type 0
Constant = record { now : List ℕ }

abbrev pub constant_rows : List (OptionOf Constant) → List OptionRow
constant_rows = map (with_texts (λ s. s.now))

-- ---- what they say

abbrev pub takes_none : Value → Bool
takes_none value.Flag = true
takes_none v = false

abbrev pub is_flag : OptionRow → Bool
is_flag o = takes_none o.value

abbrev pub is_command_of : Commands → MapsCommand → Bool
is_command_of c command.Check = c.check
is_command_of c command.Tidy = c.tidy
is_command_of c command.Flatten = c.flatten
is_command_of c command.Lint = c.lint
is_command_of c command.Repair = c.repair
is_command_of c command.Compose = c.compose
is_command_of c command.Extract = c.extract
is_command_of c command.Comment = c.comment
is_command_of c command.Inline = c.inline
is_command_of c command.Outline = c.outline
is_command_of c command.Contents = c.contents
is_command_of c command.Rename = c.rename
is_command_of c command.DebugId = c.debug_id
is_command_of c command.Diff = c.diff
