use Rattle.std.proofs.Common.{◌≡◌, ℕ, length, option_map, get_or, rules, inl, inr, sym, subst, false, List}
use Rattle.smap_trace.specs.ByLength.{AreFirstsOf, AreLengthsOf, at_length, is_among}
use Rattle.smap_trace.specs.OccurrenceView.{occurrence_in}
use Rattle.smap_trace.proofs.ByLengthLemmas.{longest_of_all, none_begins, next_length, of_length}
use Rattle.smap_trace.proofs.OccurrenceLemmas.{either_within}
use Rattle.smap_trace.proofs.table.ScriptsMaps.occurrence_at.Goals as goal

pub returns-then-is_empty-clause-value : goal.returns-then-is_empty-clause-value
returns-then-is_empty-clause-value g c =
    let text = c.args.text.now in
    let firsts = c.self.inside.firsts.items in
    sym (none_begins c.args.ignore_query text firsts c.args.self.now
    (subst (AreFirstsOf firsts) c.self.view_is c.self.invariant.1) (elim c.then-is_empty.branch [
      | goal.then-is_empty-via-then-is_empty w ↦
          let empty : length text ≡ 0 = search rules in
          inl empty
      | goal.then-is_empty-via-else-is_empty+then-not-contains w ↦
          let none : is_among firsts (get_or text 0 0) ≡ false = search rules in
          inr none
    ]))

pub loop-length-preserved : goal.loop-length-preserved
loop-length-preserved g c =
    let ignore = c.args.ignore_query in
    let text = c.args.text.now in
    let scripts = c.args.self.now in
    let found = c.occurrence_of_length-found in
    record {
      within = either_within (length text) c.loop-length.best found.result c.longer-best.result
          c.loop-length.invariant.within found.ensures.within c.longer-best.ensures.either;
      best = rw (c.longer-best.ensures.value, found.ensures.value) (next_length
          (at_length ignore scripts text)
          c.deref-length-items.result.now c.loop-length.length-index
          (option_map occurrence_in c.loop-length.best)
          (of_length ignore text scripts) c.loop-length-test.true c.loop-length.invariant.best);
    }

pub returns-clause-value : goal.returns-clause-value
returns-clause-value g c =
    let lengths = c.deref-length-items.result.now in
    longest_of_all c.args.ignore_query c.args.text.now lengths c.loop-length.length-index
    c.args.self.now (option_map occurrence_in c.loop-length.best) c.loop-length-test.false
    (subst (λ (ns : List ℕ). AreLengthsOf ns c.args.self.now) (sym c.deref-length-items.ensures.value)
    (subst (AreLengthsOf c.self.inside.lengths.items) c.self.view_is c.self.invariant.0))
    c.loop-length.invariant.best
