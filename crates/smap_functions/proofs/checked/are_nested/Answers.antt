use Rattle.std.proofs.Common.{◌≡◌, ◌++◌, [], ◌∷◌, refl, get_or, None, Some}
use Rattle.smap_functions.specs.declared.found.Function.{Function}
use Rattle.smap_functions.proofs.NestedLemmas.{nested_step}
use Rattle.smap_functions.proofs.checked.are_nested.Goals as goal
use Rattle.smap_functions.proofs.checked.are_nested.Goals.{in-Some-2+in_ok-push-in-Some-2, in-None}

pub loop-function-preserved : goal.loop-function-preserved
loop-function-preserved c =
    let i = c.loop-function.function-index in
    let d : Function = record { start = 0; end = 0; name = None; owner = None } in
    let g = get_or c.args.functions.now i d in
    let left = c.open_end.new.ends.items in
    let now = c.push-in-loop-function.new.self.items in
    elim c.match-open_end.branch [
      | in-Some-2+in_ok-push-in-Some-2 w ↦
          let is : now ≡ (left ++ w.in-Some.end ∷ []) ++ g.end ∷ []
          = rw c.in_ok-push.ensures.items (rw (w.ends-is, w.in_ok-push-in-Some-2.ensures.items) refl) in
          let parts = nested_step c.loop-function.start c.args.functions.now i d g
          c.loop-function.ends.items left now
          (Some w.in-Some.end) c.loop-function-test.true refl is c.if-function-start.false
          w.in-Some.ensures.falling w.in-Some.ensures.kept tt w.if-end-function.false
          c.loop-function.invariant.nested c.loop-function.invariant.opened in
          record { nested = parts.0; falling = parts.1; opened = parts.2 }
      | in-None w ↦
          let is : now ≡ (left ++ []) ++ g.end ∷ []
          = rw c.in_ok-push.ensures.items (rw (w.ends-is, w.in-None.ensures.empty) refl) in
          let parts = nested_step c.loop-function.start c.args.functions.now i d g
          c.loop-function.ends.items left now
          None c.loop-function-test.true refl is c.if-function-start.false
          w.in-None.ensures.falling w.in-None.ensures.kept w.in-None.ensures.empty tt
          c.loop-function.invariant.nested c.loop-function.invariant.opened in
          record { nested = parts.0; falling = parts.1; opened = parts.2 }
    ]
