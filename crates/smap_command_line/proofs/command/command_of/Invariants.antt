use Rattle.std.proofs.Common.{◌≡◌, drop, false, fold}
use Rattle.clap.specs.Words.{app_of}
use Rattle.clap.specs.declared.builder.command.Command.TheViews.{out-Command as fields_of}
use Rattle.smap_command_line.specs.Line.{alone, with_option}
use Rattle.smap_command_line.specs.Rows.{rows_view}
use Rattle.smap_command_line.proofs.command.command_of.Given as goal

abbrev pub invariant-loop-i : goal.invariant-loop-i
invariant-loop-i l = record {
  local : (fields_of l.command).has_globals ≡ false;
  shape : fold with_option (app_of l.command) (rows_view (drop l.i l.rows))
      ≡ fold with_option (alone l.name) (rows_view l.rows);
}
