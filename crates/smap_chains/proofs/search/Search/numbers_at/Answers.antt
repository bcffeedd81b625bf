use Rattle.smap_chains.proofs.SearchLemmas.{length_more, numbers_more}
use Rattle.smap_chains.proofs.search.Search.numbers_at.Goals as goal

pub loop-i-preserved : goal.loop-i-preserved
loop-i-preserved g c = let before = c.loop-i.invariant in record {
  files = c.in_ok-number.ensures.files;
  keeps = λ k m h. c.number_at.ensures.keeps k m (before.keeps k m h);
  count = length_more c.loop-i.numbers.items c.push.new.self.items c.in_ok-number.number c.loop-i.i
      c.in_ok-push.ensures.items before.count;
  are = λ m there. numbers_more (g.D.Disk.held c.args.sources.now.disk.now) c.args.sources.now.asked
      c.loop-i.self.maps.items c.number_at.new.self.maps.items c.number_at.ensures.keeps
      c.as_bytes-script.result.now
      m c.loop-i.numbers.items c.push.new.self.items c.in_ok-number.number c.loop-i.i before.count
      c.in_ok-push.ensures.items (before.are m there)
      (c.in_ok-number.ensures.is m (before.keeps c.args.k m there));
}
