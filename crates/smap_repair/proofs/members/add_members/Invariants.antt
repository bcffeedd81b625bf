use Rattle.std.proofs.Common.{◌≡◌, ◌++◌, map}
use Rattle.std.specs.List.{flat_map}
use Rattle.std.specs.Map.Iter.{deref_pair}
use Rattle.smap_repair.specs.Members.{members_in, staying_entry}
use Rattle.smap_repair.proofs.members.add_members.Given as goal

abbrev pub invariant-loop-name : goal.invariant-loop-name
invariant-loop-name l = members_in l.found.items
    ≡ members_in l.initial.found.items ++ flat_map (staying_entry l.of_map) (map deref_pair l.yielded)
