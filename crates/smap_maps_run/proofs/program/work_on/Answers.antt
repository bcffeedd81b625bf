use Rattle.std.proofs.Common.{refl}
use Rattle.smap_system.specs.Watched.{inner_of}
use Rattle.smap_maps_run.proofs.program.work_on.Goals as goal

pub returns : goal.returns
returns g c = record {
  targets = c.in_ok-targets.targets.items;
  tally = c.in_ok-tally.tally;
  middle = g.W.Write.contents (inner_of c.look_showing.new.writer);
  named = c.in_ok-targets.ensures;
  looked = rw (c.deref.ensures.value, c.url_bytes-url_bytes.ensures) at c.in_ok-tally.ensures;
  counts = c.in_ok-end_counts.ensures;
  worst = refl;
}
