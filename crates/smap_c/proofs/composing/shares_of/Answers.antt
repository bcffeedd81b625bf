use Rattle.std.proofs.Common.{◌∙◌, ◌∷◌, ◌++◌, [], List, Option, None, arith, ap, get_or, inl, inr, sym}
use Rattle.smap_c.specs.Handles.{held_map}
use Rattle.smap_c.specs.declared.opened.Opened.{Opened}
use Rattle.smap_c.proofs.ComposingLemmas.{among, one_more, put_back}
use Rattle.smap_c.proofs.composing.shares_of.Goals as goal

pub returns-in-Err-clause-same : goal.returns-in-Err-clause-same
returns-in-Err-clause-same c = put_back (λ h. h.owner.value) held_map c.loop-i.maps c.args.maps.now c.loop-i.i
    c.index-maps-i.result c.loop-i.invariant.same c.with_share.new.map c.with_share.ensures.same

pub returns-in-Err-clause-code : goal.returns-in-Err-clause-code
returns-in-Err-clause-code c = elim c.in-Err.ensures.code [
  | inl memory ↦ inl memory
  | inr closed ↦ inr (
    closed.0,
    among (λ h. h.owner.value) held_map c.loop-i.maps c.args.maps.now c.loop-i.i
        c.index-maps-i.result c.loop-i.invariant.same None (omega arith) closed.1,
  )
]

pub loop-i-preserved : goal.loop-i-preserved
loop-i-preserved c = record {
  same = put_back (λ h. h.owner.value) held_map c.loop-i.maps c.args.maps.now c.loop-i.i
      c.index-maps-i.result c.loop-i.invariant.same c.with_share.new.map c.with_share.ensures.same;
  held = c.in-Ok.ensures.held
      ∙ ap (λ (os : List (Option Opened)). os
      ++ held_map (get_or c.loop-i.maps c.loop-i.i c.index-maps-i.result).owner.value ∷ [])
      c.loop-i.invariant.held
      ∙ sym (one_more (λ h. h.owner.value) held_map c.loop-i.maps c.args.maps.now c.loop-i.i
      c.index-maps-i.result c.loop-i.invariant.same (omega arith));
}
