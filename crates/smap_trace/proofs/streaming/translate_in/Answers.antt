use Rattle.smap_trace.specs.Translation.{fate_by}
use Rattle.smap_trace.proofs.RunLemmas.{by_function}
use Rattle.smap_trace.proofs.streaming.translate_in.Goals as goal

pub returns-clause-translates : goal.returns-clause-translates
returns-clause-translates g c = by_function
    (fate_by c.args.mode (g.M.Maps.scripts c.args.maps.now) c.args.hide) _ c.translate_with.result
    c.translate_with.ensures.gives
