use Rattle.std.proofs.Common.{◌≡◌, ◌++◌, take}
use Rattle.std.specs.Map.{keys_of}
use Rattle.smap_logs.specs.Naming.{AreSame, frames_of, others_of}
use Rattle.smap_logs.proofs.naming.Names.add_named.Given as goal

abbrev pub invariant-loop-i : goal.invariant-loop-i
invariant-loop-i l = record {
  others : others_of l.self ≡ others_of l.initial.self;
  frames : AreSame (frames_of l.self) (frames_of l.initial.self ++ keys_of (take l.i l.named));
}
