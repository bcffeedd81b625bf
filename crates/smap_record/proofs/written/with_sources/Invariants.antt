use Rattle.std.proofs.Common.{◌≡◌, ◌++◌, map, take}
use Rattle.smap_record.specs.WrittenView.{numbered_of, with_root}
use Rattle.smap_record.proofs.written.with_sources.Given as goal

-- as many as were gone through are added
abbrev pub invariant-loop-i : goal.invariant-loop-i
invariant-loop-i l = map numbered_of l.sources.items
    ≡ map numbered_of l.fn.before.items ++ with_root l.root (take l.i l.shape.sources)
