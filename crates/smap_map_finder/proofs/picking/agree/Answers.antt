use Rattle.smap_map_finder.proofs.picking.agree.Goals as goal

pub returns : goal.returns
returns c = rw (← c.name_at-of_script.ensures, ← c.name_at-of_map.ensures) c.agree_equally.ensures
