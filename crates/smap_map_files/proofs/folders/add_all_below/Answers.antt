use Rattle.std.proofs.Common.{◌≡◌, ◌∙◌, ◌∷◌, [], List, ℕ, Some, ap, slice_get, string_bytes, arith, refl}
use Rattle.std.proofs.lemmas.Option.{slice_get_read}
use Rattle.smap_map_files.specs.Lists.{folder_named, lists_of, texts, with_places}
use Rattle.smap_map_files.proofs.GivenLemmas.{below_all, below_more, past_texts, text_at}
use Rattle.smap_map_files.proofs.folders.add_all_below.Goals as goal

pub loop-i-preserved : goal.loop-i-preserved
loop-i-preserved g c =
    let root = c.args.root.now in
    let at : slice_get c.args.names.now c.loop-i.i ≡ Some c.index-names-i.result =
    slice_get_read c.args.names.now _ c.loop-i.i c.index-names-i.result refl (omega
    (arith, c.loop-i-test.true)) c.index-names-i.is in
    below_more root.url.items (string_bytes root.path) c.args.number c.loop-i.i (texts c.args.names.now)
    (string_bytes c.index-names-i.result) (lists_of c.loop-i.wanted) (lists_of c.add_below.new.wanted) _
    (text_at c.args.names.now c.loop-i.i c.index-names-i.result at)
    (c.in_ok-add_below.ensures ∙ ap (λ (name : List ℕ). with_places c.args.number
    (folder_named root.url.items (string_bytes root.path) (name ∷ []))
    (lists_of c.loop-i.wanted)) c.deref.ensures)
    c.loop-i.invariant

pub returns : goal.returns
returns g c =
    let root = c.args.root.now in
    below_all root.url.items (string_bytes root.path) c.args.number c.loop-i.i (texts c.args.names.now)
    (lists_of c.loop-i.wanted) _
    (past_texts c.args.names.now c.loop-i.i c.loop-i-test.false) c.loop-i.invariant
