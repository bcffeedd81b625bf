use Rattle.std.proofs.Common.{◌≡◌, ◌∙◌, arith, ap, take, sym, subst, List, None, Some}
use Rattle.smap_record.specs.Record.{ReadMap, record_of}
use Rattle.smap_trace.specs.Scripts.{Script, map_of}
use Rattle.std.proofs.lemmas.Bool.Decides.{nat_tests}
use Rattle.smap_trace.proofs.ByLengthLemmas.{looked_up}
use Rattle.smap_trace.proofs.TableLemmas.{entry_in, no_entry}
use Rattle.std.proofs.lemmas.List.{take_rest}
use Rattle.smap_trace.proofs.table.Scripts.occurrence_of_length.Goals as goal

pub returns-in_err-url-clause-value : goal.returns-in_err-url-clause-value
returns-in_err-url-clause-value g c =
    let text = c.args.text.now in
    let n = c.args.url_len in
    let is = rw (take_rest text n) at c.in_ok-place.ensures.value in
    let none : map_of c.args.self.now (take n text) ≡ None =
    subst (λ (ss : List Script). map_of ss (take n text) ≡ None) c.self.view_is
    (no_entry g.H.HasMap.held_map (take n text) c.self.inside.maps.entries c.in_err-url.ensures.value) in
    grind (arith, nat_tests)

pub returns-clause-value : goal.returns-clause-value
returns-clause-value g c =
    let text = c.args.text.now in
    let n = c.args.url_len in
    let is = rw (take_rest text n) at c.in_ok-place.ensures.value in
    let entry = entry_in g.H.HasMap.held_map (take n text) c.self.inside.maps.entries c.in_ok-url.url.now
    c.in_ok-url.holder.now c.in_ok-url.ensures.key c.in_ok-url.ensures.value in
    looked_up c.args.ignore_query text n c.args.self.now c.in_ok-place.place
    c.deref.result.now (record_of c.map.result.now) (omega arith) (omega arith) is
    (c.deref.ensures.value ∙ entry.0)
    (ap (λ (ss : List Script). map_of ss (take n text)) (sym c.self.view_is) ∙ entry.1
    ∙ ap (λ (m : ReadMap). Some (record_of m)) (sym c.map.ensures))
