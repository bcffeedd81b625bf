use Rattle.std.proofs.Common.{refl}
use Rattle.smap_map_finder.specs.ChosenView.{no_choices}
use Rattle.smap_trace_run.proofs.AskedLemmas.{none_named}
use Rattle.smap_trace_run.proofs.tracing.Run.new.Goals as goal

pub invariant_of-result : goal.invariant_of-result
invariant_of-result g c = rw c.in_ok-finder.ensures (record {
  disk_is = refl;
  how_is = refl;
  wanted_is = refl;
  named = none_named (g.D.Disk.held c.args.host.now.disk.now) c.args.job.now no_choices refl;
})
