use Rattle.smap_record.proofs.StabilityLemmas.{is_made}
use Rattle.smap_record.proofs.source_urls.base.Base.new.Goals as goal

pub invariant_of-result : goal.invariant_of-result
invariant_of-result c = is_made c.args.text.now c.in-Ok.url c.as_str.ensures.valid c.in-Ok.ensures
