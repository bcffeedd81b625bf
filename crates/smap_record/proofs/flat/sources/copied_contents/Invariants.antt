use Rattle.std.proofs.Common.{◌≡◌, length, take}
use Rattle.smap_record.specs.Owned.{texts_of}
use Rattle.smap_record.proofs.flat.sources.copied_contents.Given as goal

-- as many as were gone through are copied
abbrev pub invariant-loop-i : goal.invariant-loop-i
invariant-loop-i l = record {
  copied : texts_of l.contents.items ≡ take l.i l.shape.contents;
  count : length l.contents.items ≡ l.i;
}
