use Rattle.smap_trace.specs.Unnamed.{fate_alone}
use Rattle.smap_trace.proofs.RunLemmas.{by_function}
use Rattle.smap_trace.proofs.unnamed.translate_alone_in.Goals as goal

pub returns-clause-translates : goal.returns-clause-translates
returns-clause-translates g c = by_function
    (fate_alone c.args.mode.unnamed.now c.args.mode.mode (g.M.Maps.scripts c.args.maps.now) c.args.mode.hide)
    _ c.translate_with.result c.translate_with.ensures.gives
