use Rattle.std.proofs.Common.{◌↔◌, IsTrue, true, length, rules, arith}
use Rattle.smap_trace.proofs.ScriptLemmas.{AreDistinctBelow, not_distinct, told}
use Rattle.smap_trace.proofs.scripts.distinct_scripts.Goals as goal

pub returns-then-eq : goal.returns-then-eq
returns-then-eq c = not_distinct c.args.scripts.now c.loop-i.i c.loop-j.j c.index-scripts-i.result
    c.index-scripts-j.result (omega arith) (search rules) (search rules) (search rules) (search rules)

pub returns : goal.returns
returns c =
    let scripts = c.args.scripts.now in
    let below : IsTrue true ↔ AreDistinctBelow scripts (length scripts) = search rules in
    told scripts true below
