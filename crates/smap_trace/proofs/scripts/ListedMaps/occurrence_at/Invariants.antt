use Rattle.std.proofs.Common.{◌≡◌, drop, length, option_map, IfSome}
use Rattle.smap_trace.specs.Anywhere.{longer, longest}
use Rattle.smap_trace.specs.OccurrenceView.{IsWithin, occurrence_in}
use Rattle.smap_trace.specs.Views.{scripts_in}
use Rattle.smap_trace.proofs.scripts.ListedMaps.occurrence_at.Given as goal

abbrev pub invariant-loop-script : goal.invariant-loop-script
invariant-loop-script l = record {
  within : IfSome l.best (IsWithin (length l.text));
  rest : longer (option_map occurrence_in l.best)
      (longest l.ignore_query (scripts_in (drop l.script-index l.self.scripts.now)) l.text)
      ≡ longest l.ignore_query (scripts_in l.self.scripts.now) l.text;
}
