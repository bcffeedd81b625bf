use Rattle.std.proofs.Common.{◌≡◌, Some, map, take}
use Rattle.smap_c.specs.Handles.{held_map}
use Rattle.smap_c.proofs.composing.shares_of.Given as goal

-- the handles are as they were, and there is a share in the map of each that was gone through
abbrev pub invariant-loop-i : goal.invariant-loop-i
invariant-loop-i l = record {
  same : map (λ h. h.owner.value) l.maps ≡ map (λ h. h.owner.value) l.fn.maps;
  held : map (λ s. Some s.arc.value) l.shares.items
      ≡ take l.i (map (λ h. held_map h.owner.value) l.fn.maps);
}
