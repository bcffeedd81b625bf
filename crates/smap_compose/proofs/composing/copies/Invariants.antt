use Rattle.std.proofs.Common.{◌≡◌, map, string_bytes, take}
use Rattle.smap_compose.specs.Following.{texts_of}
use Rattle.smap_compose.proofs.composing.copies.Given as goal

-- as many as were gone through are copied
abbrev pub invariant-loop-i : goal.invariant-loop-i
invariant-loop-i l = map string_bytes l.all.items ≡ texts_of (take l.i l.names.keys)
