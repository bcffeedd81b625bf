use Rattle.smap_map_finder.proofs.picking.is_map_as_long.Goals as goal

pub returns-in-ByEnd : goal.returns-in-ByEnd
returns-in-ByEnd c = rw c.in-ByEnd.is c.agree.ensures

pub returns-in-Unclear : goal.returns-in-Unclear
returns-in-Unclear c = rw c.in-Unclear.is c.agree-in-Unclear.ensures
