use Rattle.std.proofs.Common.{◌≡◌, ◌+◌, ◌≤◌, ℕ, List, false, length}
use Rattle.smap_io.specs.Calls.{SpendsCalls, StopsInTime}
use Rattle.smap_io.specs.Device.{device_failures, has_ended, is_over}
use Rattle.smap_io.specs.Reading.{Gave}
use Rattle.smap_io.specs.Limits.{most_calls}
use Rattle.smap_record.specs.Scripts.{AreDistinct}
use Rattle.smap_tool.proofs.EntryLemmas.{AreEntries}
use Rattle.smap_tool.proofs.entries.read_bundle.Given as goal

abbrev pub invariant-entries : goal.invariant-entries
invariant-entries g l = record {
  reads : (entries : List ℕ) × Gave g.R.Read.remaining l.fn.reader l.reader entries
      × AreEntries entries l.scripts × (most_calls ≤ l.calls + length entries);
  distinct : AreDistinct l.scripts;
  failures : device_failures l.reader ≡ device_failures l.fn.reader;
  not_ended : has_ended l.reader ≡ false;
  in_time : StopsInTime l.fn.reader l.reader;
  spends : SpendsCalls l.fn.reader l.reader most_calls l.calls;
  still : is_over l.reader ≡ is_over l.fn.reader;
}

abbrev pub decreases-entries : goal.decreases-entries
decreases-entries g l = l.calls
