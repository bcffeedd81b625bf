use Rattle.std.proofs.Common.{◌≡◌, length}
use Rattle.smap_chains.specs.Chains.{AreLeads}
use Rattle.smap_chains.specs.Search.{AreFiles, Keeps}
use Rattle.smap_chains.proofs.search.Search.follow_level.Given as goal

abbrev pub invariant-loop-k : goal.invariant-loop-k
invariant-loop-k g l = let held = g.D.Disk.held l.sources.disk.now in record {
  files : AreFiles held l.sources.asked l.self;
  keeps : Keeps l.initial.self.maps.items l.self.maps.items;
  count : length l.leads.items ≡ l.k;
  are : AreLeads held l.sources.asked l.self.maps.items l.leads.items;
}
