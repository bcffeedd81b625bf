use Rattle.std.proofs.Common.{◌≡◌, ◌++◌, map, string_bytes, take}
use Rattle.smap_maps_run.proofs.looking.add_names.Given as goal

abbrev pub invariant-loop-name : goal.invariant-loop-name
invariant-loop-name l = map string_bytes l.names.items
    ≡ map string_bytes l.initial.names.items ++ map (λ name. l.ahead ++ name.now) (take l.name-index l.more)
