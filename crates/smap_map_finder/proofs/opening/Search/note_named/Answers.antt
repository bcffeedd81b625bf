use Rattle.std.proofs.Common.{subst, sym}
use Rattle.smap_map_finder.specs.Choice.{AreLinks}
use Rattle.smap_map_finder.proofs.LinkLemmas.{kept_more}
use Rattle.smap_map_finder.proofs.opening.Search.note_named.Goals as goal

pub returns : goal.returns
returns g c =
    let held = g.D.Disk.held c.args.self.now.host.now.disk.now in
    let w = c.args.self.now.wanted.now in
    subst (AreLinks held w) (sym c.in_ok-insert.ensures.entries)
    (kept_more held w c.args.links.now.named.entries c.args.script c.in_ok-named.named c.requires
    c.in_ok-named.ensures)
