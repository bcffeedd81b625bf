use Rattle.std.proofs.Common.{◌≡◌, false}
use Rattle.smap_io.specs.Calls.{MakesAtMost, StopsInTime}
use Rattle.smap_io.specs.Device.{device_failures, has_ended, is_over}
use Rattle.smap_trace.proofs.NamingLemmas.{SoFar}
use Rattle.smap_trace.proofs.naming.named_scripts.Given as goal

abbrev pub invariant-pieces : goal.invariant-pieces
invariant-pieces g l = record {
  reads : device_failures l.reader ≡ device_failures l.fn.reader;
  open_still : has_ended l.reader ≡ false;
  count : MakesAtMost l.counter l.fn.reader l.reader;
  in_time : StopsInTime l.fn.reader l.reader;
  read_on : is_over l.reader ≡ is_over l.fn.reader;
  so_far : SoFar g.R.Read.remaining l.fn.reader l.reader l.counter l.line.items l.named;
}
