use Rattle.std.proofs.Common.{◌≡◌, filter, map, take}
use Rattle.smap_logs.specs.Naming.{is_sought}
use Rattle.smap_logs.proofs.naming.Names.of_others.Given as goal

abbrev pub invariant-loop-name : goal.invariant-loop-name
invariant-loop-name l = map (λ n. n.now) l.sought.items
    ≡ filter (is_sought l.given) (map (λ n. n.items) (take l.name-index l.others))
