use Rattle.smap_map_files.proofs.following.follow.Goals as goal

pub returns-in-Some : goal.returns-in-Some
returns-in-Some g c =
    rw c.in-Some.is (rw (c.deref.ensures.value, c.as_str.ensures.value) at c.follow_in.ensures)

pub returns-in-None : goal.returns-in-None
returns-in-None g c = rw c.in-None.is c.follow_alone.ensures
