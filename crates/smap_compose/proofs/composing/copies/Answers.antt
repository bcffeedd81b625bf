use Rattle.std.proofs.Common.{◌≡◌, ◌∙◌, [], ◌∷◌, ◌++◌, List, ℕ, Some, ap, map, rules, slice_get}
use Rattle.std.proofs.Common.{string_bytes, take}
use denote.Ref.{Bor}
use Rattle.smap_record.proofs.ListLemmas.{map-push}
use Rattle.smap_compose.specs.Following.{texts_of}
use Rattle.smap_compose.proofs.StandingLemmas.{push_mapped}
use Rattle.smap_compose.proofs.composing.copies.Goals as goal

pub loop-i-preserved : goal.loop-i-preserved
loop-i-preserved c =
    let keys = c.args.names.now.keys in
    let i = c.loop-i.i in
    let text = c.in_ok-from_str.field-0 in
    let at : slice_get keys i ≡ Some c.index.result.now = search rules in
    ap (map string_bytes) c.in_ok-push.ensures.items
    ∙ map-push string_bytes c.loop-i.all.items text
    ∙ ap (λ (ts : List (List ℕ)). ts ++ string_bytes text ∷ []) c.loop-i.invariant
    ∙ ap (λ (t : List ℕ). texts_of (take i keys) ++ t ∷ []) c.in_ok-from_str.ensures.ok
    ∙ push_mapped (λ (t : Bor (List ℕ)). t.now) [] keys i c.index.result.now at
