use Rattle.std.proofs.Common.{◌≡◌, drop}
use Rattle.std.specs.Prelude.{find}
use Rattle.smap_record.specs.Record.{record_of}
use Rattle.smap_differences.specs.Leading.{counts, first_in, numbers}
use Rattle.smap_differences.proofs.leading.first_in.Given as goal

abbrev pub invariant-loop-i : goal.invariant-loop-i
invariant-loop-i l = first_in l.shared (record_of l.map) (record_of l.other)
    ≡ find (counts l.shared (record_of l.map) (record_of l.other)) (drop l.i (numbers (record_of l.map)))
