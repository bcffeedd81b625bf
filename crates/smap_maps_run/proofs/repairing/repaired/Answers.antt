use Rattle.smap_maps_run.proofs.repairing.repaired.Goals as goal

pub replaced-verdict-requires : goal.replaced-verdict-requires
replaced-verdict-requires g c = record {
  file = c.args.file.now;
  is_file = c.requires.file;
  due = rw (c.requires.work, c.deref-then-write.ensures.value)
      (c.if-write.true, rw c.deref.ensures.value at c.in-Ok.ensures);
}
