use Rattle.std.proofs.Common.{◌≡◌, drop}
use Rattle.smap_command_line.specs.Lookups.{rows_in}
use Rattle.smap_command_line.specs.Rows.{rows_view}
use Rattle.smap_command_line.specs.Values.{first_bad}
use Rattle.smap_command_line.proofs.values.first_bad.Given as goal

abbrev pub invariant-loop-i : goal.invariant-loop-i
invariant-loop-i l =
    first_bad (rows_view (drop l.i l.rows)) (rows_in l.options)
    ≡ first_bad (rows_view l.rows) (rows_in l.options)
