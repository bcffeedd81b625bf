use Rattle.smap_maps_run.proofs.composing.closed_outcome.Goals as goal

pub changed-requires-clause-text : goal.changed-requires-clause-text
changed-requires-clause-text g c = rw c.deref.ensures.value (record {
  map = c.args.map.now;
  reads = c.requires.reads;
  closed = c.args.closed;
  is_closed = c.requires.closed;
  thin = c.args.job.thin;
  only = c.args.job.used;
  is = c.in_ok-text.ensures;
})
