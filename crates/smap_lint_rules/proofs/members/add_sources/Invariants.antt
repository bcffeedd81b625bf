use Rattle.std.proofs.Common.{◌≡◌, ◌++◌, map, take}
use Rattle.std.specs.List.{flat_map}
use Rattle.serde_json.specs.View.{view}
use Rattle.smap_lint_rules.specs.Members.{machine_path_of}
use Rattle.smap_lint_rules.proofs.members.add_sources.Given as goal

abbrev pub invariant-loop-i : goal.invariant-loop-i
invariant-loop-i l = map (λ p. p.now) l.found.items ≡ map (λ p. p.now) l.initial.found.items
    ++ flat_map machine_path_of (take l.i (map view l.sources))
