use Rattle.std.proofs.Common.{◌∙◌}
use Rattle.smap_map_finder.proofs.GrowthLemmas.{tried_as}
use Rattle.smap_map_finder.proofs.opening.Search.opened_under.Goals as goal

pub returns-clause-tried : goal.returns-clause-tried
returns-clause-tried g c =
    tried_as (g.D.Disk.held c.args.self.now.host.now.disk.now) c.args.self.now.wanted.now
    c.opened_map.new.worst c.args.pick.now.name.now c.as_slice.result.now c.args.pick.now.found
    c.opened_map.result (c.as_slice.ensures.value ∙ c.in_ok-name.ensures) c.opened_map.ensures.named
    c.opened_map.ensures.none
