use Rattle.std.proofs.Common.{◌⊎◌, map, take}
use Rattle.std.specs.List.{All, Contains}
use Rattle.smap_map_files.specs.declared.wanted.Wanted.{Wanted}
use Rattle.smap_system.specs.Held.{Held}
use Rattle.smap_map_finder.specs.ChosenView.{AreChosen, IsSettledIn, choices_of}
use Rattle.smap_map_finder.proofs.giving.unknown.Given as goal

abbrev pub invariant-loop-i : goal.invariant-loop-i
invariant-loop-i l = record {
  each : (held : Held) (wanted : Wanted) → AreChosen held wanted (choices_of l.chosen)
      → All (λ n. IsSettledIn held wanted l.in_frames (choices_of l.chosen) n.now
      ⊎ Contains (map (λ f. f.now) l.unknown.items) n.now) (take l.i l.names);
  among : All (λ f. Contains (map (λ n. n.now) l.names) f.now) l.unknown.items;
}
