use Rattle.std.proofs.Common.{◌≡◌, map, string_bytes}
use Rattle.smap_differences.specs.Drops.{lost_among}
use Rattle.smap_differences.proofs.members.lost_members.Given as goal

abbrev pub invariant-loop-name : goal.invariant-loop-name
invariant-loop-name l =
    map (λ n. n.now) l.names.items ≡ lost_among l.part l.is_index (map (λ e. string_bytes e.0.now) l.yielded)
