use Rattle.std.proofs.Common.{◌≡◌, ◌+◌, ◌-◌, ◌<◌, ◌≤◌, false, take, vec_len}
use Rattle.smap_io.specs.Calls.{SpendsCalls, StopsInTime}
use Rattle.smap_io.specs.Device.{device_failures, has_ended, is_over}
use Rattle.smap_io.specs.Reading.{Gave}
use Rattle.smap_io.proofs.reading.read_up_to.Given as goal

abbrev pub invariant-reads : goal.invariant-reads
invariant-reads g l = record {
  gave : Gave g.R.Read.remaining l.fn.reader l.reader (take l.filled l.text.items);
  filled : l.filled ≤ vec_len l.text;
  inside : l.filled ≤ l.most;
  room : vec_len l.text ≤ l.most;
  counted : l.fn.calls ≤ l.calls + l.filled;
  left : l.calls ≤ l.fn.calls;
  fewer : 0 < l.filled → l.calls < l.fn.calls;
  failures : device_failures l.reader ≡ device_failures l.fn.reader;
  ended : has_ended l.reader ≡ has_ended l.fn.reader;
  going : l.over ≡ false;
  in_time : StopsInTime l.fn.reader l.reader;
  spends : SpendsCalls l.fn.reader l.reader l.fn.calls l.calls;
  still : is_over l.reader ≡ is_over l.fn.reader;
}

abbrev pub decreases-reads : goal.decreases-reads
decreases-reads g l = l.most - l.filled
