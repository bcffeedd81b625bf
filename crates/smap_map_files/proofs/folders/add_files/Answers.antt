use Rattle.std.proofs.Common.{◌≡◌, ◌∙◌, ◌∷◌, [], List, ℕ, Some, ap, rules, slice_get, string_bytes, arith}
use Rattle.std.proofs.Common.{refl}
use Rattle.std.proofs.lemmas.Option.{slice_get_read}
use Rattle.smap_map_choice.specs.Places.{below}
use Rattle.smap_map_files.specs.Lists.{lists_of, texts, with_files}
use Rattle.smap_map_files.proofs.GivenLemmas.{files_all, files_more, past_texts, text_at}
use Rattle.smap_map_files.proofs.folders.add_files.Goals as goal

pub loop-i-preserved : goal.loop-i-preserved
loop-i-preserved c =
    let at : slice_get c.args.names.now c.loop-i.i ≡ Some c.index-names-i.result =
    slice_get_read c.args.names.now _ c.loop-i.i c.index-names-i.result refl (omega
    (arith, c.loop-i-test.true)) c.index-names-i.is in
    let file : c.in_ok-file.file.items ≡ below c.args.path.now
    (string_bytes c.index-names-i.result) = search rules in
    files_more c.args.path.now c.args.number c.loop-i.i (texts c.args.names.now)
    (string_bytes c.index-names-i.result)
    (lists_of c.loop-i.wanted) (lists_of c.push_file.new.wanted) _
    (text_at c.args.names.now c.loop-i.i c.index-names-i.result at)
    (c.in_ok-push_file.ensures ∙ ap (λ (name : List ℕ). with_files c.args.number (name ∷ [])
    (lists_of c.loop-i.wanted)) file)
    c.loop-i.invariant

pub returns : goal.returns
returns c = files_all c.args.path.now c.args.number c.loop-i.i (texts c.args.names.now)
    (lists_of c.loop-i.wanted) _
    (past_texts c.args.names.now c.loop-i.i c.loop-i-test.false) c.loop-i.invariant
