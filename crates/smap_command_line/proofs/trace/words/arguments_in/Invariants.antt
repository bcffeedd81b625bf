use Rattle.std.proofs.Common.{◌≡◌, map, take, true}
use Rattle.std.specs.List.{list_all}
use Rattle.smap_command_line.specs.Arguments.{argument_view, argument_meant, is_argument}
use Rattle.smap_command_line.proofs.trace.words.arguments_in.Given as goal

abbrev pub invariant-loop-i : goal.invariant-loop-i
invariant-loop-i l = record {
  view : map argument_view l.arguments.items ≡ map argument_meant (take l.i (map (λ s. s.now) l.texts));
  pass : list_all is_argument (take l.i (map (λ s. s.now) l.texts)) ≡ true;
}
