use Rattle.std.proofs.Common.{◌∙◌, ◌+◌, [], ◌∷◌, ◌++◌, List, add-one, ap, length, map}
use Rattle.std.proofs.Common.{refl, sym, take}
use Rattle.std.proofs.lemmas.Option.{slice_get_read}
use Rattle.smap_record.specs.Record.{ReadMap, Record, record_of}
use Rattle.smap_record.proofs.ListLemmas.{map-push}
use Rattle.smap_compose.specs.Deep.{by_numbers, composed, each_by_numbers}
use Rattle.smap_compose.proofs.DeepLemmas.{each_next}
use Rattle.smap_compose.proofs.StandingLemmas.{push_mapped}
use Rattle.smap_compose.proofs.deep.compose_each.Goals as goal

pub loop-k-preserved : goal.loop-k-preserved
loop-k-preserved c =
    let maps = c.args.maps.now in
    let leads = c.args.leads.now in
    let inner = map record_of c.args.inner.now in
    let k = c.loop-k.k in
    let m = c.index-maps-k.result in
    let at = slice_get_read maps (length maps) k m refl c.loop-k-test.true c.index-maps-k.is in
    let pushed = ap (map record_of) c.in_ok-push.ensures.items
    ∙ map-push record_of c.loop-k.all.items c.in_ok-map.map in
    record {
      deep = λ n find lead same.
          let f = λ (x : ReadMap). composed (n + 1) find (record_of x) in
          let next = c.in_ok-map.ensures.deep maps n find
          (rw c.numbers_of-numbers.ensures (lead k m at)) same in
          pushed ∙ (ap (λ (rs : List Record). rs ++ record_of c.in_ok-map.map ∷ [])
          (c.loop-k.invariant.deep n find lead same)
          ∙ (ap (λ (r : Record). map f (take k maps) ++ r ∷ []) next ∙ push_mapped f [] maps k m at));
      numbers = pushed ∙ (ap (λ (rs : List Record). rs ++ record_of c.in_ok-map.map ∷ [])
          c.loop-k.invariant.numbers
          ∙ (ap (λ (r : Record). each_by_numbers (take k maps) leads inner ++ r ∷ [])
          (c.in_ok-map.ensures.numbers ∙ ap (λ ns. by_numbers m ns inner) c.numbers_of-numbers.ensures)
          ∙ sym (ap (λ n. each_by_numbers (take n maps) leads inner) (add-one k)
          ∙ each_next maps leads inner k m at)));
    }
