use Rattle.smap_map_files.proofs.NamingLemmas.{first_there, none_before_first, none_before_next, not_there}
use Rattle.smap_map_files.proofs.NamingLemmas.{tried}
use Rattle.smap_map_files.proofs.arguments.way_of.Goals as goal

pub loop-init : goal.loop-init
loop-init g c = none_before_first (g.D.Disk.tree c.args.host.now.disk.now)
    (g.D.Disk.held c.args.host.now.disk.now)
    c.args.word.now c.first-split.result c.first-split.ensures

pub loop-preserved : goal.loop-preserved
loop-preserved g c =
    let told = g.D.Disk.tree c.args.host.now.disk.now in
    let held = g.D.Disk.held c.args.host.now.disk.now in
    let way = c.in-Some.way in
    let before = tried told held c.args.word.now c.loop.split way c.in-Some.is c.loop.invariant in
    none_before_next told held c.args.word.now way c.following-split.result before
    (not_there told held c.args.word.now way c.file.result.now before.0 c.file.ensures
    c.in_default-kind_of.ensures)
    c.following-split.ensures

pub returns-in-Some-kind_of : goal.returns-in-Some-kind_of
returns-in-Some-kind_of g c =
    let told = g.D.Disk.tree c.args.host.now.disk.now in
    let held = g.D.Disk.held c.args.host.now.disk.now in
    let before = tried told held c.args.word.now c.loop.split c.in-Some.way c.in-Some.is c.loop.invariant in (
      before.0,
      first_there told held c.args.word.now c.in-Some-kind_of.kind c.in-Some.way c.file.result.now before
          c.file.ensures c.in-Some-kind_of.ensures,
    )
