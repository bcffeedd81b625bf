use Rattle.std.proofs.Common.{◌++◌, None, get_or, refl, reverse}
use Rattle.smap_functions.specs.declared.found.Function.{Function}
use Rattle.smap_functions.proofs.SegmentLemmas.{function_added}
use Rattle.smap_functions.proofs.segments.segments.Goals as goal

pub loop-function-preserved : goal.loop-function-preserved
loop-function-preserved c =
    let i = c.loop-function.function-index in
    let d : Function = record { start = 0; end = 0; name = None; owner = None } in
    function_added c.args.functions.now i d (get_or c.args.functions.now i d)
    (c.loop-function.begun.items ++ reverse c.loop-function.waiting.items)
    (c.add_function.new.begun.items ++ reverse c.add_function.new.waiting.items)
    c.loop-function-test.true refl c.in_ok-add_function.ensures c.loop-function.invariant
