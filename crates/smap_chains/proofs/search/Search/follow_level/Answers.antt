use Rattle.std.proofs.Common.{◌<◌, length, arith}
use Rattle.smap_chains.proofs.SearchLemmas.{leads_more, length_more, some_at}
use Rattle.smap_chains.proofs.search.Search.follow_level.Goals as goal

pub loop-k-preserved : goal.loop-k-preserved
loop-k-preserved g c =
    let before = c.loop-k.invariant in
    let lt : c.loop-k.k < length c.args.self.now.maps.items = omega arith in
    let found = some_at c.args.self.now.maps.items c.loop-k.k lt in
    let there = before.keeps c.loop-k.k found.0 found.1 in record {
      files = c.in_ok-numbers.ensures.files;
      keeps = λ k m h. c.numbers_at.ensures.keeps k m (before.keeps k m h);
      count = length_more c.loop-k.leads.items c.push.new.self.items c.in_ok-numbers.numbers c.loop-k.k
          c.in_ok-push.ensures.items before.count;
      are = leads_more (g.D.Disk.held c.args.sources.now.disk.now) c.args.sources.now.asked
          c.loop-k.self.maps.items c.numbers_at.new.self.maps.items c.numbers_at.ensures.keeps
          c.loop-k.leads.items
          c.push.new.self.items c.in_ok-numbers.numbers found.0 c.loop-k.k before.count
          c.in_ok-push.ensures.items before.are there (c.in_ok-numbers.ensures.are found.0 there);
    }
