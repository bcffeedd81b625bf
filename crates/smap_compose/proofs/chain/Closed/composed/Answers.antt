use Rattle.std.proofs.Common.{◌∙◌, ap, map, sym}
use Rattle.std.proofs.lemmas.List.{map-id}
use Rattle.std.proofs.lemmas.Result.{IfErr-weaker, IfOk-weaker}
use Rattle.smap_record.specs.Record.{ReadMap, record_of}
use Rattle.smap_trace.specs.LineStarts.{line_starts}
use Rattle.smap_compose.specs.Chain.{closed, led_to}
use Rattle.smap_compose.specs.Numbered.{maps_of}
use Rattle.smap_compose.proofs.ClosingLemmas.{agree_by, same_composition, same_too_many}
use Rattle.smap_compose.proofs.chain.Closed.composed.Goals as goal

pub compose_by-requires : goal.compose_by-requires
compose_by-requires c = c.deref-2.ensures.value ∙ c.requires
    ∙ ap (map (λ (m : ReadMap). line_starts (record_of m).mappings)) (sym c.deref.ensures.value)

pub returns-clause-record : goal.returns-clause-record
returns-clause-record c =
    let m = c.args.map.now in
    let inner = map (λ (x : ReadMap). x) c.deref.result.now in
    let leads = c.deref-3.result.now in
    let self = c.args.self.now in
    IfOk-weaker c.compose_by.result _ _ (λ r h links are. h
    ∙ same_composition (maps_of m inner leads) (led_to (closed links)) m
    (agree_by m inner leads links self are (map-id c.deref.result.now ∙ c.deref.ensures.value)
    (c.deref-3.ensures.value ∙ c.in_ok-leads.ensures)) c.token_count.ensures.listing)
    c.compose_by.ensures.record

pub returns-clause-few : goal.returns-clause-few
returns-clause-few c =
    let m = c.args.map.now in
    let inner = map (λ (x : ReadMap). x) c.deref.result.now in
    let leads = c.deref-3.result.now in
    let self = c.args.self.now in
    IfOk-weaker c.compose_by.result _ _ (λ r h links are.
    sym (same_too_many (maps_of m inner leads) (led_to (closed links)) m
    (agree_by m inner leads links self are (map-id c.deref.result.now ∙ c.deref.ensures.value)
    (c.deref-3.ensures.value ∙ c.in_ok-leads.ensures)) c.args.limits c.token_count.ensures.listing) ∙ h)
    c.compose_by.ensures.few

pub returns-clause-refused : goal.returns-clause-refused
returns-clause-refused c =
    let m = c.args.map.now in
    let inner = map (λ (x : ReadMap). x) c.deref.result.now in
    let leads = c.deref-3.result.now in
    let self = c.args.self.now in
    IfErr-weaker c.compose_by.result _ _ (λ e h links are is.
    sym (same_too_many (maps_of m inner leads) (led_to (closed links)) m
    (agree_by m inner leads links self are (map-id c.deref.result.now ∙ c.deref.ensures.value)
    (c.deref-3.ensures.value ∙ c.in_ok-leads.ensures)) c.args.limits c.token_count.ensures.listing) ∙ h is)
    c.compose_by.ensures.refused
