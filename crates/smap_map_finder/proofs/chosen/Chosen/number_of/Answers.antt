use Rattle.std.proofs.Common.{rules}
use Rattle.std.proofs.lemmas.Option.{slice_get_read}
use Rattle.smap_map_finder.proofs.chosen.Chosen.number_of.Goals as goal

pub returns-then-serves : goal.returns-then-serves
returns-then-serves c = (
  c.in_ok-opening.opening.now,
  (
    search (rules, slice_get_read),
    rw c.deref-2.ensures.value at (c.serves.ensures.serves c.if-serves.true),
  ),
)
