use Rattle.std.proofs.Common.{◌≡◌, ◌++◌, filter, map, take}
use Rattle.smap_logs.specs.Naming.{AreSame, frames_of, has_plain_query, name_in, others_of, without}
use Rattle.smap_logs.proofs.naming.Names.add_others_of.Given as goal

abbrev pub invariant-loop-span : goal.invariant-loop-span
invariant-loop-span l = record {
  frames : frames_of l.self ≡ frames_of l.initial.self;
  others : AreSame (others_of l.self) (others_of l.initial.self ++ without (frames_of l.initial.self)
      (filter has_plain_query (map (name_in l.line) (take l.span-index l.span-items))));
}
