use Rattle.std.proofs.Common.{◌≡◌, length, take}
use Rattle.std.specs.List.{filter}
use Rattle.smap_record.specs.Record.{record_of}
use Rattle.smap_lint_rules.specs.Contents.{leads_past}
use Rattle.smap_lint_rules.proofs.contents.count_originals_past_end.Given as goal

abbrev pub invariant-loop-i : goal.invariant-loop-i
invariant-loop-i l = l.count ≡ length (filter leads_past (take l.i (record_of l.map).mappings))
