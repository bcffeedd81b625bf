use Rattle.std.proofs.Common.{rules}
use Rattle.smap_map_finder.proofs.finder.Finder.new.Goals as goal

pub invariant_of-result : goal.invariant_of-result
invariant_of-result g c = record {
  over = c.in_ok-opener.ensures (g.D.Disk.held c.args.host.now.disk.now);
  chosen = search rules;
}
