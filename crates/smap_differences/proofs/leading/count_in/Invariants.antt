use Rattle.std.proofs.Common.{◌≡◌, length, take}
use Rattle.std.specs.List.{filter}
use Rattle.smap_record.specs.Record.{record_of}
use Rattle.smap_differences.specs.Leading.{counts, numbers}
use Rattle.smap_differences.proofs.leading.count_in.Given as goal

abbrev pub invariant-loop-i : goal.invariant-loop-i
invariant-loop-i l = l.count ≡ length (filter
    (counts l.shared (record_of l.map) (record_of l.other)) (take l.i (numbers (record_of l.map))))
