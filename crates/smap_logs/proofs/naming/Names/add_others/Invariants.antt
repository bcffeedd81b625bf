use Rattle.std.proofs.Common.{◌≡◌, ◌++◌, flat_map, map}
use Rattle.smap_logs.specs.Naming.{AreSame, frames_of, others_in_line, others_of, without}
use Rattle.smap_logs.proofs.naming.Names.add_others.Given as goal

abbrev pub invariant-loop-line : goal.invariant-loop-line
invariant-loop-line l = record {
  frames : frames_of l.self ≡ frames_of l.initial.self;
  others : AreSame (others_of l.self) (others_of l.initial.self ++ without (frames_of l.initial.self)
      (flat_map others_in_line (map (λ s. s.now) l.yielded)));
}
