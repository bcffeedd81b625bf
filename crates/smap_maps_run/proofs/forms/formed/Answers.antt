use Rattle.smap_record.specs.Record.{usual}
use Rattle.smap_maps_run.proofs.forms.formed.Goals as goal

pub returns-in-Ok-clause-keeps : goal.returns-in-Ok-clause-keeps
returns-in-Ok-clause-keeps c =
    let read = rw c.in-Some.is at c.in_ok-map.ensures.reads in
    let fits = rw c.in-Some.is at c.in_ok-map.ensures.fits in
    let listing_fits = rw c.in-Some.is at c.in_ok-map.ensures.listing_fits in
    (c.in-Some.map, read, rw c.in-Ok.ensures.text (c.in-Ok.ensures.read_again usual fits listing_fits))
