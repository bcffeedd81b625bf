use Rattle.std.proofs.Common.{map, drop}
use Rattle.smap_canon.specs.Writing.{Continues, member_of_label}
use Rattle.smap_canon.proofs.labels.send_labels.Given as goal

abbrev pub invariant-loop-i : goal.invariant-loop-i
invariant-loop-i g l = Continues (map member_of_label (drop l.i l.labels)) (g.S.Serializer.written l.out)
    (map member_of_label l.labels) (g.S.Serializer.written l.initial.out)
