use Rattle.std.proofs.Common.{◌∙◌, None}
use Rattle.smap_functions.specs.declared.found.Function.{Function}
use Rattle.smap_functions.proofs.LastLemmas.{innermost-more}
use Rattle.smap_functions.proofs.listing.innermost.Goals as goal

pub loop-function-preserved : goal.loop-function-preserved
loop-function-preserved c =
    let d : Function = record { start = 0; end = 0; name = None; owner = None } in
    c.later-found.ensures
    ∙ innermost-more c.args.functions.now c.loop-function.function-index d c.args.place c.loop-function.found
    c.loop-function-test.true c.loop-function.invariant
