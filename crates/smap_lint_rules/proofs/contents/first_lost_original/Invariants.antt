use Rattle.std.proofs.Common.{◌≡◌, drop}
use Rattle.std.specs.Prelude.{find}
use Rattle.smap_record.specs.Record.{record_of}
use Rattle.smap_lint_rules.specs.Contents.{leads_past}
use Rattle.smap_lint_rules.proofs.contents.first_lost_original.Given as goal

abbrev pub invariant-loop-i : goal.invariant-loop-i
invariant-loop-i l =
    find leads_past (record_of l.map).mappings ≡ find leads_past (drop l.i (record_of l.map).mappings)
