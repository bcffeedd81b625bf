use Rattle.std.proofs.Common.{◌≡◌, ◌++◌, true, false, drop, length}
use Rattle.std.specs.Vec.Iter.{into_iter_items, into_iter_len}
use Rattle.smap_map_files.specs.Chosen.{beside_flag}
use Rattle.smap_map_files.proofs.settling.parted.Given as goal

-- those that were gone through, and those to come
abbrev pub invariant-loop-flag : goal.invariant-loop-flag
invariant-loop-flag g l = record {
  count : into_iter_len l.rest ≡ length (into_iter_items l.rest);
  unset : l.unset.items ++ beside_flag false (drop l.flag-index l.flags) (into_iter_items l.rest)
      ≡ beside_flag false l.flags l.fn.items.items;
  set : l.set.items ++ beside_flag true (drop l.flag-index l.flags) (into_iter_items l.rest)
      ≡ beside_flag true l.flags l.fn.items.items;
}
