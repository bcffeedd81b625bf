use Rattle.std.proofs.Common.{◌≡◌, ◌∙◌, List, ℕ, ap, cond, map, subst, sym}
use Rattle.std.specs.Prelude.{IfSome, is_some}
use Rattle.std.proofs.lemmas.Result.{on_ok_weaker}
use Rattle.serde_json.specs.Data.{string}
use Rattle.serde_json.specs.Events.{SendsValue}
use Rattle.smap_record.specs.Record.{record_of}
use Rattle.smap_record.specs.Fitting.{names_used}
use Rattle.smap_canon.specs.Layout.{list_of}
use Rattle.smap_canon.specs.Numbering.{AreUsedNames, texts_of}
use Rattle.smap_canon.specs.Writing.{names_of}
use Rattle.smap_canon.proofs.SentLemmas.{texts_sent}
use Rattle.smap_canon.proofs.layout.NamesSerialize.serialize.Goals as goal

pub returns-in-Some : goal.returns-in-Some
returns-in-Some g c =
    let listed = c.args.self.now.listed in
    let m = listed.map.now in
    let old = g.S.Serializer.written c.args.out.now in
    let new = g.S.Serializer.written c.serialize.new.out in
    let are = subst (λ x. IfSome x (λ n. AreUsedNames m n.now)) c.in-Some.is listed.names_are in
    let names : texts_of c.as_slice.result.now ≡ names_of listed =
    ap texts_of c.as_slice.ensures.keys ∙ are.used
    ∙ sym (ap (λ b. cond b (names_used (record_of m).mappings) m.listing.names) (ap is_some c.in-Some.is)) in
    on_ok_weaker c.serialize.result
    (λ w. subst (λ (ns : List (List ℕ)). SendsValue (list_of (map string ns)) old new) names
    (texts_sent c.as_slice.result.now old new w)) c.serialize.ensures
