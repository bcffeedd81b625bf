use Rattle.std.proofs.Common.{◌≡◌, Some, length}
use Rattle.std.specs.List.{slice_get}
use Rattle.smap_record.specs.Record.{ReadMap}
use Rattle.smap_chains.specs.Chains.{AreNumbers}
use Rattle.smap_chains.specs.Search.{AreFiles, Keeps}
use Rattle.smap_chains.proofs.search.Search.numbers_at.Given as goal

abbrev pub invariant-loop-i : goal.invariant-loop-i
invariant-loop-i g l = let held = g.D.Disk.held l.sources.disk.now in record {
  files : AreFiles held l.sources.asked l.self;
  keeps : Keeps l.initial.self.maps.items l.self.maps.items;
  count : length l.numbers.items ≡ l.i;
  are : (m : ReadMap) → slice_get l.initial.self.maps.items l.k ≡ Some m
      → AreNumbers held l.sources.asked l.self.maps.items l.script m l.numbers.items;
}
