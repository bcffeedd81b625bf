use Rattle.std.proofs.Common.{◌≡◌, ◌∙◌, List, ℕ, Some, ap, not, slice_get, string_bytes, arith, refl}
use Rattle.std.proofs.lemmas.Option.{slice_get_read}
use Rattle.smap_map_files.specs.Chosen.{holds}
use Rattle.smap_map_files.specs.Lists.{has_own_map, texts}
use Rattle.smap_map_files.proofs.GivenLemmas.{past_texts, text_at}
use Rattle.smap_map_files.proofs.ListLemmas.{made_all, made_more}
use Rattle.smap_map_files.proofs.folders.unmapped.Goals as goal

pub loop-i-preserved : goal.loop-i-preserved
loop-i-preserved c =
    let names = texts c.args.names.now in
    let name = string_bytes c.index-names-i.result in
    let at : slice_get c.args.names.now c.loop-i.i ≡ Some c.index-names-i.result =
    slice_get_read c.args.names.now _ c.loop-i.i c.index-names-i.result refl (omega
    (arith, c.loop-i-test.true)) c.index-names-i.is in
    made_more (λ n. not (has_own_map names n)) names c.loop-i.i name c.loop-i.flags.items
    c.push.new.self.items _
    (not c.contains.result) (text_at c.args.names.now c.loop-i.i c.index-names-i.result at)
    (ap not (c.contains.ensures ∙ ap (λ
    (text : List ℕ). holds c.in_ok-mapped.mapped.keys text) c.as_bytes.ensures.value
    ∙ c.in_ok-mapped.ensures name)) c.in_ok-push.ensures.items c.loop-i.invariant

pub returns : goal.returns
returns c =
    let names = texts c.args.names.now in
    made_all (λ n. not (has_own_map names n)) names c.loop-i.i c.loop-i.flags.items _
    (past_texts c.args.names.now c.loop-i.i c.loop-i-test.false) c.loop-i.invariant
