use Rattle.smap_maps_run.proofs.looking.Case.done.Goals as goal

pub replaced-requires : goal.replaced-requires
replaced-requires g c = c.requires c.in-Write.is
