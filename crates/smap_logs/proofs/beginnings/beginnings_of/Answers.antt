use Rattle.std.proofs.Common.{◌∙◌, ◌<◌, ◌-◌, ℕ, List, ap, arith, sym}
use Rattle.smap_logs.specs.Beginnings.{starts_below}
use Rattle.smap_logs.proofs.BeginningLemmas.{extended, extended_none, extended_one, starts_end, starts_none}
use Rattle.smap_logs.proofs.BeginningLemmas.{starts_one, starts_stopped}
use Rattle.smap_logs.proofs.beginnings.beginnings_of.Goals as goal

pub loop-start-preserved-then-may_begin : goal.loop-start-preserved-then-may_begin
loop-start-preserved-then-may_begin c =
    let n = c.loop-start.start in
    let low = c.args.end - 1024 in
    let line = c.args.line.now in
    let some : low < n = omega arith in
    let with = c.with-found.ensures in
    record {
      before = with.before c.args.end (omega arith) c.loop-start.invariant.before;
      all = extended_one line c.args.end c.loop-start.found c.with-found.result (n - 1)
          (starts_below line low (n - 1)) with.nearest with.scheme with.root with.farthest
          ∙ ap (λ (ss : List ℕ). extended line c.args.end c.loop-start.found ss)
          (sym (starts_one line low n some
          (sym c.ends_url.ensures ∙ c.if-ends_url.false)
          (sym c.may_begin.ensures ∙ c.if-may_begin.true))) ∙ c.loop-start.invariant.all;
    }

pub loop-start-preserved : goal.loop-start-preserved
loop-start-preserved c =
    let n = c.loop-start.start in
    let low = c.args.end - 1024 in
    let line = c.args.line.now in
    let some : low < n = omega arith in
    record {
      before = c.loop-start.invariant.before;
      all = ap (λ (ss : List ℕ). extended line c.args.end c.loop-start.found ss)
          (sym (starts_none line low n some
          (sym c.ends_url.ensures ∙ c.if-ends_url.false)
          (sym c.may_begin.ensures ∙ c.if-may_begin.false))) ∙ c.loop-start.invariant.all;
    }

pub returns-after-loop-start-clause-value : goal.returns-after-loop-start-clause-value
returns-after-loop-start-clause-value c =
    let n = c.loop-start.start in
    let low = c.args.end - 1024 in
    let line = c.args.line.now in
    let found = c.loop-start.found in
    sym (extended_none line c.args.end found)
    ∙ ap (λ (ss : List ℕ). extended line c.args.end found ss) (sym (starts_end line low n (omega arith)))
    ∙ c.loop-start.invariant.all

pub returns-then-ends_url-clause-value : goal.returns-then-ends_url-clause-value
returns-then-ends_url-clause-value c =
    let n = c.loop-start.start in
    let low = c.args.end - 1024 in
    let line = c.args.line.now in
    let found = c.loop-start.found in
    let some : low < n = omega arith in
    sym (extended_none line c.args.end found)
    ∙ ap (λ (ss : List ℕ). extended line c.args.end found ss) (sym (starts_stopped line low n some
    (sym c.ends_url.ensures ∙ c.if-ends_url.true)))
    ∙ c.loop-start.invariant.all
