use Rattle.smap_map_finder.proofs.alike.are_one_map.Goals as goal

pub returns : goal.returns
returns c = λ is. record {
  one = c.in-Some.map;
  other = c.in-Some-2.other;
  first_is = rw c.in-Some.is at c.in_ok-map.ensures;
  second_is = rw c.in-Some-2.is at c.in_ok-other.ensures;
  same = c.same.ensures.0 is;
}
