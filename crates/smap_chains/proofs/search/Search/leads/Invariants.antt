use Rattle.smap_chains.specs.Chains.{AreLeads}
use Rattle.smap_chains.specs.Search.{AreFiles, Keeps}
use Rattle.smap_chains.proofs.search.Search.leads.Given as goal

abbrev pub invariant-loop : goal.invariant-loop
invariant-loop g l = let held = g.D.Disk.held l.sources.disk.now in record {
  files : AreFiles held l.sources.asked l.self;
  keeps : Keeps l.initial.self.maps.items l.self.maps.items;
  are : AreLeads held l.sources.asked l.self.maps.items l.leads.items;
}
