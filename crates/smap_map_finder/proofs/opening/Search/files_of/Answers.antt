use Rattle.smap_map_finder.proofs.opening.Search.files_of.Goals as goal

pub returns : goal.returns
returns g c = record {
  picks = c.in_ok-picks.picks.items;
  are_picked = c.in_ok-picks.ensures.picked;
  files_are = rw c.deref.ensures.value at c.in_ok-files.ensures;
}
