use Rattle.smap_maps_run.proofs.ComposingLemmas.{closed_over}
use Rattle.smap_maps_run.proofs.composing.with_chain.Goals as goal

pub closed_outcome-requires-clause-closed : goal.closed_outcome-requires-clause-closed
closed_outcome-requires-clause-closed g c =
    let found = rw c.in-Map.is at c.in_ok-closed.ensures in
    closed_over (g.D.Disk.held c.args.case.now.disk.now) c.args.map.now c.in-Map.closed _ _
    c.in_ok-chain.chain found.0 c.in_ok-chain.ensures found.1
