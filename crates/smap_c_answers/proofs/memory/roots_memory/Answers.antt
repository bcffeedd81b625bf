use Rattle.std.proofs.Common.{◌<◌, ◌≤◌, arith, get_or, length, None}
use Rattle.std.proofs.lemmas.Option.{slice_get-get_or}
use Rattle.smap_record.specs.Written.{Spelling}
use Rattle.smap_c_answers.specs.Memory.{capped, roots_memory}
use Rattle.smap_c_answers.proofs.MemoryLemmas.{roots_done, roots_next}
use Rattle.smap_c_answers.proofs.memory.roots_memory.Goals as goal

none : Spelling
none = record { source = None; root = None }

pub loop-i-preserved : goal.loop-i-preserved
loop-i-preserved c =
    let within : c.loop-i.i < length c.args.written.now =
    omega (arith, c.loop-i-test.true, c.len-i-end.ensures) in
    let s = get_or c.args.written.now c.loop-i.i none in
    let at = slice_get-get_or c.args.written.now c.loop-i.i none within in
    roots_next c.args.written.now c.loop-i.i s c.loop-i.total c.root_memory.result
    c.saturating_add-total.result (capped (roots_memory c.args.written.now)) at c.loop-i.invariant.1
    (c.root_memory.ensures s at) c.saturating_add-total.ensures

pub returns : goal.returns
returns c =
    let behind : length c.args.written.now ≤ c.loop-i.i =
    omega (arith, c.loop-i-test.false, c.len-i-end.ensures) in
    roots_done c.args.written.now c.loop-i.i c.loop-i.total (capped (roots_memory c.args.written.now)) behind
    c.loop-i.invariant.0 c.loop-i.invariant.1
