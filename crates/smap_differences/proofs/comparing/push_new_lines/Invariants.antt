use Rattle.std.proofs.Common.{◌≡◌, ◌++◌, map, string_bytes}
use Rattle.std.specs.List.{flat_map}
use Rattle.std.specs.Map.Iter.{deref_pair}
use Rattle.smap_differences.specs.Changes.{new_line}
use Rattle.smap_differences.proofs.comparing.push_new_lines.Given as goal

abbrev pub invariant-loop-name : goal.invariant-loop-name
invariant-loop-name l = map string_bytes l.lines.items
    ≡ map string_bytes l.initial.lines.items ++ flat_map (new_line l.before) (map deref_pair l.yielded)
