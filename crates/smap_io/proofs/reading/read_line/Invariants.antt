use Rattle.std.proofs.Common.{◌≡◌, ◌+◌, ◌-◌, ◌≤◌, false, true, length}
use Rattle.smap_io.specs.Calls.{SpendsCalls, StopsInTime}
use Rattle.smap_io.specs.Device.{device_failures, has_ended, is_over}
use Rattle.smap_io.specs.Reading.{Gave, lacks}
use Rattle.smap_io.proofs.reading.read_line.Given as goal

abbrev pub invariant-bytes : goal.invariant-bytes
invariant-bytes g l = record {
  gave : Gave g.R.Read.remaining l.fn.reader l.reader l.line.items;
  lacking : lacks 10 l.line.items ≡ true;
  within : length l.line.items ≤ l.most;
  counted : l.calls + length l.line.items ≡ l.fn.calls;
  failures : device_failures l.reader ≡ device_failures l.fn.reader;
  ended : has_ended l.reader ≡ has_ended l.fn.reader;
  going : l.over ≡ false;
  in_time : StopsInTime l.fn.reader l.reader;
  spends : SpendsCalls l.fn.reader l.reader l.fn.calls l.calls;
  still : is_over l.reader ≡ is_over l.fn.reader;
}

abbrev pub decreases-bytes : goal.decreases-bytes
decreases-bytes g l = l.most - length l.line.items
