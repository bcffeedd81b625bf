use Rattle.smap_record.specs.MapView.{listing_of}
use Rattle.smap_record.proofs.FitLemmas.{fits}
use Rattle.smap_record.proofs.sections.index_map.Goals as goal

pub returns-clause-fits : goal.returns-clause-fits
returns-clause-fits c =
    rw c.new.ensures
    (fits c.args.base.now c.args.limits (record {
      labels = c.in_ok-labels.labels;
      listing = listing_of c.in_ok-listed.listed;
    }) c.in_ok-listed.ensures.fits)
