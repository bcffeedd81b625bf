use Rattle.smap_record.proofs.StabilityLemmas.{leads_to_itself}
use Rattle.smap_record.proofs.source_urls.base.Base.join.Goals as goal

pub returns-in-Ok-clause-itself : goal.returns-in-Ok-clause-itself
returns-in-Ok-clause-itself c =
    rw (← c.self.view_is)
    (leads_to_itself c.self.inside.url c.in-Ok.url c.args.text.now c.self.invariant c.as_str.ensures.valid
    c.in-Ok.ensures)
