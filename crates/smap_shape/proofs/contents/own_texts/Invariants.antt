use Rattle.std.proofs.Common.{◌≡◌, map, option_map, string_bytes}
use Rattle.smap_shape.specs.Inside.{texts}
use Rattle.smap_shape.proofs.contents.own_texts.Given as goal

-- those that were gone through are moved
abbrev pub invariant-loop-value : goal.invariant-loop-value
invariant-loop-value l = map (option_map string_bytes) l.own.items ≡ texts l.yielded
