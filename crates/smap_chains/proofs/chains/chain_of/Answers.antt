use Rattle.smap_chains.proofs.SearchLemmas.{numbers_kept}
use Rattle.smap_chains.proofs.chains.chain_of.Goals as goal

pub returns : goal.returns
returns g c = record {
  first = numbers_kept (g.D.Disk.held c.args.disk.now) c.args.asked c.numbers.new.self.maps.items
      c.leads.new.self.maps.items c.leads.ensures.keeps c.args.script.now c.args.map.now
      c.in_ok-numbers.numbers.items c.in_ok-numbers.ensures.are;
  later = c.in_ok-leads.ensures.are;
}
