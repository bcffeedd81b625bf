use Rattle.std.proofs.Common.{◌⊎◌, ◌+◌, ◌++◌, ◌∷◌, [], inl, inr, refl, sym, subst, ⊎_elim, ℕ, List, Bor}
use Rattle.std.proofs.Common.{get_or, map, take}
use Rattle.std.specs.List.{All, Contains}
use Rattle.std.proofs.lemmas.List.{take_all}
use Rattle.std.proofs.lemmas.List.Elements.{All-more, All-push}
use Rattle.smap_map_finder.specs.ChosenView.{IsSettledIn, choices_of}
use Rattle.smap_map_finder.proofs.ChosenLemmas.{listed_before, listed_last, mapped_among}
use Rattle.smap_map_finder.proofs.giving.unknown.Goals as goal

pub loop-i-preserved-then-is_known : goal.loop-i-preserved-then-is_known
loop-i-preserved-then-is_known c = record {
  each = λ held wanted chosen.
      let IsOne =
      λ (n : Bor (List ℕ)). IsSettledIn held wanted c.args.in_frames (choices_of c.args.chosen.now) n.now
      ⊎ Contains (map (λ (f : Bor (List ℕ)). f.now) c.loop-i.unknown.items) n.now in
      All-more IsOne c.args.names.now c.loop-i.i (record { ref_ptr = (0, 0); now = [] }) c.loop-i-test.true
      (c.loop-i.invariant.each held wanted chosen)
      (inl (c.is_known.ensures held wanted chosen c.if-is_known.true));
  among = c.loop-i.invariant.among;
}

pub loop-i-preserved : goal.loop-i-preserved
loop-i-preserved c =
    let text = λ (f : Bor (List ℕ)). f.now in
    let fresh = c.loop-i.unknown.items in
    let names = c.args.names.now in
    let d : Bor (List ℕ) = record { ref_ptr = (0, 0); now = [] } in
    let IsAmong = λ (f : Bor (List ℕ)). Contains (map text names) f.now in
    record {
      each = λ held wanted chosen.
          let IsOne = λ (l : List (Bor (List ℕ))) (n : Bor (List ℕ)).
          IsSettledIn held wanted c.args.in_frames (choices_of c.args.chosen.now) n.now
          ⊎ Contains (map text l) n.now in
          let IsAfter = IsOne (fresh ++ get_or names c.loop-i.i d ∷ []) in
          let before : All IsAfter (take c.loop-i.i names) = λ k n lt. ⊎_elim (λ known. inl known)
          (λ among. inr (listed_before text fresh (get_or names c.loop-i.i d ∷ []) _ among))
          (c.loop-i.invariant.each held wanted chosen k n lt) in
          subst (λ (l : List (Bor (List ℕ))). All (IsOne l) (take (c.loop-i.i + 1) names))
          (sym c.in_ok-push.ensures.items)
          (All-more IsAfter names c.loop-i.i d c.loop-i-test.true before
          (inr (listed_last text fresh (get_or names c.loop-i.i d) _ refl)));
      among = subst (All IsAmong) (sym c.in_ok-push.ensures.items)
          (All-push IsAmong fresh (get_or names c.loop-i.i d) c.loop-i.invariant.among
          (mapped_among text names c.loop-i.i d c.loop-i-test.true));
    }

pub returns-clause-each : goal.returns-clause-each
returns-clause-each c = λ held wanted chosen.
    rw (take_all c.loop-i.i c.args.names.now c.loop-i-test.false) at
    (c.loop-i.invariant.each held wanted chosen)
