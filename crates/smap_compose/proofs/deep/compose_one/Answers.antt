use Rattle.std.proofs.Common.{◌∙◌, List, add-one, ap, map, sym}
use Rattle.std.specs.Prelude.{option_map}
use Rattle.std.proofs.lemmas.List.{map-id}
use Rattle.std.proofs.lemmas.Result.{IfOk-weaker}
use Rattle.smap_record.specs.Record.{ReadMap, record_of}
use Rattle.smap_compose.specs.Deep.{by_numbers, composed}
use Rattle.smap_compose.specs.Numbered.{maps_of}
use Rattle.smap_compose.proofs.ClosingLemmas.{same_composition}
use Rattle.smap_compose.proofs.DeepLemmas.{agree_deep}
use Rattle.smap_compose.proofs.deep.compose_one.Goals as goal

pub returns-clause-deep : goal.returns-clause-deep
returns-clause-deep c =
    let m = c.args.map.now in
    let inner = map (λ (x : ReadMap). x) c.args.inner.now in
    let numbers = c.args.numbers.now in
    IfOk-weaker c.compose_by.result _ _ (λ r h maps n find lead same. h
    ∙ same_composition (maps_of m inner numbers) (λ e. option_map (composed n find) (find e)) m
    (agree_deep m inner maps numbers n find lead (ap (map record_of) (map-id c.args.inner.now) ∙ same))
    c.token_count.ensures.listing
    ∙ sym (ap (λ k. composed k find (record_of m)) (add-one n)))
    c.compose_by.ensures.record

pub returns-clause-numbers : goal.returns-clause-numbers
returns-clause-numbers c =
    let m = c.args.map.now in
    let numbers = c.args.numbers.now in
    IfOk-weaker c.compose_by.result _ _ (λ r h.
    h ∙ ap (λ (inner : List ReadMap). by_numbers m numbers (map record_of inner)) (map-id c.args.inner.now))
    c.compose_by.ensures.record
