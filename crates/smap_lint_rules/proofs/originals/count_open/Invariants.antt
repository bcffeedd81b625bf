use Rattle.std.proofs.Common.{◌≡◌, length, take}
use Rattle.std.specs.List.{filter}
use Rattle.smap_record.specs.Record.{record_of}
use Rattle.smap_lint_rules.specs.Findings.{names_map}
use Rattle.smap_lint_rules.proofs.originals.count_open.Given as goal

abbrev pub invariant-loop-number : goal.invariant-loop-number
invariant-loop-number l = l.count ≡ length (filter names_map (take l.number (record_of l.map).sources))
