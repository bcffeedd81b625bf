use Rattle.std.proofs.Common.{◌≡◌, ◌∙◌, ◌||◌, List, ℕ, Some, ap, arith, false, true, refl, rules, slice_get}
use Rattle.std.proofs.Common.{string_bytes}
use Rattle.std.proofs.lemmas.Option.{slice_get_read}
use Rattle.std.specs.Str.{bytes_eq}
use Rattle.smap_link.specs.Ends.{stem}
use Rattle.smap_link.specs.Kinds.{is_map}
use Rattle.smap_map_files.specs.Chosen.{holds}
use Rattle.smap_map_files.specs.Lists.{texts}
use Rattle.smap_map_files.proofs.GivenLemmas.{mapped_added, mapped_all, mapped_passed, past_texts, text_at}
use Rattle.smap_map_files.proofs.folders.mapped_names.Goals as goal

pub loop-i-preserved-then-not-is_map : goal.loop-i-preserved-then-not-is_map
loop-i-preserved-then-not-is_map c =
    let name : slice_get c.args.names.now c.loop-i.i ≡ Some c.index-names-i.result =
    slice_get_read c.args.names.now _ c.loop-i.i c.index-names-i.result refl (omega
    (arith, c.loop-i-test.true)) c.index-names-i.is in
    let other : is_map (string_bytes c.index-names-i.result) ≡ false = search rules in
    mapped_passed (texts c.args.names.now) c.loop-i.i c.loop-i.mapped.keys
    (string_bytes c.index-names-i.result)
    (text_at c.args.names.now c.loop-i.i c.index-names-i.result name) other c.loop-i.invariant

pub loop-i-preserved : goal.loop-i-preserved
loop-i-preserved c =
    let name : slice_get c.args.names.now c.loop-i.i ≡ Some c.index-names-i.result =
    slice_get_read c.args.names.now _ c.loop-i.i c.index-names-i.result refl (omega
    (arith, c.loop-i-test.true)) c.index-names-i.is in
    let is : is_map (string_bytes c.index-names-i.result) ≡ true = search rules in
    let its : c.stem.result.now ≡ stem (string_bytes c.index-names-i.result) = search rules in
    mapped_added (texts c.args.names.now) c.loop-i.i c.loop-i.mapped.keys c.add_text.new.texts.keys
    (string_bytes c.index-names-i.result) (text_at c.args.names.now c.loop-i.i c.index-names-i.result name) is
    (λ other. c.in_ok-add_text.ensures.added other
    ∙ ap (λ (text : List ℕ). holds c.loop-i.mapped.keys other || bytes_eq other text) its) c.loop-i.invariant

pub returns : goal.returns
returns c = mapped_all (texts c.args.names.now) c.loop-i.i c.loop-i.mapped.keys
    (past_texts c.args.names.now c.loop-i.i c.loop-i-test.false) c.loop-i.invariant
