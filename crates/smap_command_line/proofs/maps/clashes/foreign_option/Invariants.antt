use Rattle.std.proofs.Common.{◌≡◌, drop}
use Rattle.smap_command_line.specs.Clashes.{foreign_option}
use Rattle.smap_command_line.specs.Lookups.{rows_in}
use Rattle.smap_command_line.specs.Rows.{rows_view}
use Rattle.smap_command_line.proofs.maps.clashes.foreign_option.Given as goal

abbrev pub invariant-loop-i : goal.invariant-loop-i
invariant-loop-i l =
    foreign_option (rows_in l.options) l.command (rows_view (drop l.i l.rows))
    ≡ foreign_option (rows_in l.options) l.command (rows_view l.rows)
