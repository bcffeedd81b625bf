use Rattle.std.proofs.Common.{◌≡◌, drop}
use Rattle.std.specs.Prelude.{find}
use Rattle.smap_record.specs.Record.{record_of}
use Rattle.smap_lint_rules.specs.Findings.{names_map}
use Rattle.smap_lint_rules.proofs.originals.first_open.Given as goal

abbrev pub invariant-loop-number : goal.invariant-loop-number
invariant-loop-number l =
    find names_map (record_of l.map).sources ≡ find names_map (drop l.number (record_of l.map).sources)
