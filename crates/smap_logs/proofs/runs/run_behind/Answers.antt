use Rattle.std.proofs.Common.{◌≡◌, ◌∙◌, ◌+◌, ◌-◌, None, length, suc, arith, subst, sym}
use Rattle.smap_logs.specs.Spans.{number_end, place}
use Rattle.smap_logs.specs.declared.runs.Run.{Run}
use Rattle.smap_logs.proofs.SpanLemmas.{none_left, run_none, run_with, with_alone}
use Rattle.smap_logs.proofs.runs.run_behind.Goals as goal

pub loop-preserved : goal.loop-preserved
loop-preserved c =
    let line = c.args.line.now in
    let n = length line - c.loop.counter in
    let m = length line - (c.loop.counter + 1) in
    let more : n ≡ suc m = omega arith in
    let new = place c.loop.before c.in-Some.end in
    let alone : Run → Type 0 = λ r. r.first ≡ None → r.last ≡ None in
    record {
      run = c.with-run.ensures.run (length line)
          (omega (arith, c.in-Some.ensures.within.0), c.in-Some.ensures.within.1) c.loop.invariant.run;
      before = omega (arith, c.in-Some.ensures.within.0, c.with-run.ensures.end);
      begun = omega (arith, c.in-Some.ensures.within.0, c.with-run.ensures.end);
      alone = subst alone (sym c.with-run.ensures.value) (with_alone c.loop.run.first new);
      all = run_with line n m c.loop.before c.loop.run.end more c.loop.run.first c.loop.run.last c.in-Some.end
          c.with-run.result (sym c.in-Some.ensures.value) c.with-run.ensures.value ∙ c.loop.invariant.all;
    }

pub returns-in_default-clause-value : goal.returns-in_default-clause-value
returns-in_default-clause-value c =
    let line = c.args.line.now in
    let n = length line - c.loop.counter in
    let m = length line - (c.loop.counter + 1) in
    let more : n ≡ suc m = omega arith in
    let none : number_end line c.loop.run.end ≡ None =
    sym c.number_end.ensures.value ∙ none_left c.number_end.result c.in_default.not-Some in
    sym (run_none line n m c.loop.before c.loop.run.end more c.loop.run.first c.loop.run.last none
    c.loop.invariant.alone) ∙ c.loop.invariant.all
