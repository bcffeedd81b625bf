use Rattle.std.proofs.Common.{◌≡◌, ◌∙◌, ◌+◌, List, ap, arith, add-one, map, sym}
use Rattle.std.proofs.lemmas.Result.{IfOk-weaker}
use Rattle.smap_record.specs.Record.{Record, record_of}
use Rattle.smap_compose.specs.Deep.{by_numbers, composed, each_by_numbers, levels}
use Rattle.smap_compose.proofs.deep.compose_deep.Goals as goal

pub loop-level-preserved : goal.loop-level-preserved
loop-level-preserved c =
    let maps = c.args.maps.now in
    let leads = c.args.leads.now in
    record {
      deep = λ find all.
          c.in_ok-composed_once_more.ensures.deep c.loop-level.level find all
          (c.loop-level.invariant.deep find all);
      levels = c.in_ok-composed_once_more.ensures.numbers
          ∙ (ap (λ (rs : List Record). each_by_numbers maps leads rs) c.loop-level.invariant.levels
          ∙ sym (ap (levels maps leads) (add-one c.loop-level.level)));
    }

pub returns-clause-deep : goal.returns-clause-deep
returns-clause-deep c =
    let outer = record_of c.args.outer.now in
    let level = c.loop-level.level in
    let ends : level ≡ c.args.below = omega (arith, c.loop-level-test.false, c.loop-level.auto.level-end) in
    IfOk-weaker c.compose_one.result _ _ (λ m h find lead all.
    h c.args.maps.now level find lead
    (ap (map record_of) c.latest-inner.ensures ∙ c.loop-level.invariant.deep find all)
    ∙ ap (λ k. composed (k + 1) find outer) ends)
    c.compose_one.ensures.deep

pub returns-clause-levels : goal.returns-clause-levels
returns-clause-levels c =
    let outer = c.args.outer.now in
    let level = c.loop-level.level in
    let ends : level ≡ c.args.below = omega (arith, c.loop-level-test.false, c.loop-level.auto.level-end) in
    IfOk-weaker c.compose_one.result _ _ (λ m h.
    h ∙ ap (by_numbers outer c.args.numbers.now)
    (ap (map record_of) c.latest-inner.ensures
    ∙ (c.loop-level.invariant.levels ∙ ap (levels c.args.maps.now c.args.leads.now) ends)))
    c.compose_one.ensures.numbers
