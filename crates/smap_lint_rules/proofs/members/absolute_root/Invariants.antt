use Rattle.std.proofs.Common.{◌≡◌, drop, map, slice_get}
use Rattle.std.specs.List.{flat_map}
use Rattle.serde_json.specs.View.{view}
use Rattle.smap_lint_rules.specs.Members.{absolute_root_of}
use Rattle.smap_lint_rules.proofs.members.absolute_root.Given as goal

abbrev pub invariant-loop-i : goal.invariant-loop-i
invariant-loop-i l = slice_get (flat_map absolute_root_of (map (λ m. view m.now) l.maps)) 0
    ≡ slice_get (flat_map absolute_root_of (drop l.i (map (λ m. view m.now) l.maps))) 0
