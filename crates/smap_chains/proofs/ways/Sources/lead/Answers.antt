use Rattle.smap_chains.proofs.WayLemmas.{lead_target}
use Rattle.smap_chains.proofs.ways.Sources.lead.Goals as goal

pub returns-in_default : goal.returns-in_default
returns-in_default g c =
    lead_target c.args.self.now.asked c.args.url.now c.args.text.now c.in_ok-lead.lead c.in_ok-lead.ensures
