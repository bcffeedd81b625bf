use Rattle.std.proofs.Common.{◌∙◌, ℕ, List, ap, map, take, refl, subst}
use Rattle.smap_mappings.proofs.EncodingLemmas.{placed_last}
use Rattle.smap_record.specs.Record.{record_of, mapping_of}
use Rattle.smap_record.specs.Fitting.{names_used}
use Rattle.smap_canon.specs.Canonical.{token_of}
use Rattle.smap_canon.proofs.PushedLemmas.{pushed_map}
use Rattle.smap_canon.proofs.StepLemmas.{mapping-there, encodable-then}
use Rattle.smap_canon.proofs.numbering.pass_numbered.Goals as goal

pub take-requires : goal.take-requires
take-requires g c =
    let m = c.args.map.now in
    let t = c.listed_token.result in
    let at = c.listed_token.ensures in
    let r = record_of m in
    let same = c.token_by.ensures
    ∙ ap (λ (ns : List (List ℕ)). token_of r.sources ns (mapping_of m.listing t)) c.requires.names.used in
    placed_last (map (token_of r.sources (names_used r.mappings)) (take c.loop-i.i r.mappings))
    c.token_by.result
    (encodable-then m c.loop-i.i t at c.token_by.result c.token_count-i-end.ensures.listing same).1

pub loop-i-preserved : goal.loop-i-preserved
loop-i-preserved g c =
    let m = c.args.map.now in
    let t = c.listed_token.result in
    let at = c.listed_token.ensures in
    let r = record_of m in
    let same = c.token_by.ensures
    ∙ ap (λ (ns : List (List ℕ)). token_of r.sources ns (mapping_of m.listing t)) c.requires.names.used in
    let so_far = map (token_of r.sources (names_used r.mappings)) (take c.loop-i.i r.mappings) in
    subst (g.S.TokenSink.was_passed c.take.new.self)
    (pushed_map (token_of r.sources (names_used r.mappings)) so_far r.mappings c.loop-i.i c.token_by.result
    (mapping_of m.listing t) refl
    (mapping-there m c.loop-i.i t at) same)
    (c.in_ok-take.ensures so_far c.loop-i.invariant
    (encodable-then m c.loop-i.i t at c.token_by.result c.token_count-i-end.ensures.listing same))
