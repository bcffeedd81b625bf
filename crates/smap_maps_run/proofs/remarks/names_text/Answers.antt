use Rattle.std.proofs.Common.{◌≡◌, ◌∙◌, ℕ, List, ◌++◌, ap, codes, slice_index_or, String, string_bytes}
use Rattle.std.proofs.Common.{take_all}
use Rattle.std.specs.declared.alloc.Global.{Global}
use Rattle.smap_differences.specs.Naming.{shown_name}
use Rattle.smap_maps_run.specs.Remarks.{names_text}
use Rattle.smap_maps_run.proofs.JoiningLemmas.{joined_first, joined_more}
use Rattle.smap_maps_run.proofs.remarks.names_text.Goals as goal
use Rattle.smap_maps_run.proofs.remarks.names_text.Goals.{then-i-gt0+in_ok-push_str, else-i-gt0}

abbrev shown : String Global → List ℕ
shown name = shown_name (string_bytes name)

pub loop-i-preserved : goal.loop-i-preserved
loop-i-preserved c =
    let names = c.args.names.now in
    let i = c.loop-i.i in
    let name = c.index-names-i.result in
    let more = c.loop-i-test.true in
    let put = c.in_ok-push_str-2.ensures.bytes in
    let piece : c.as_str-in-loop-i.result.now ≡ shown (slice_index_or names i name) =
    c.as_str-in-loop-i.ensures.value ∙ c.in_ok-name.ensures ∙ ap shown_name c.as_str.ensures.value
    ∙ ap shown c.index-names-i.is in
    elim c.if-i-gt0.branch [
      | then-i-gt0+in_ok-push_str w ↦
          let before = ap string_bytes w.text-is ∙ w.in_ok-push_str.ensures.bytes
          ∙ ap (λ l. l ++ codes ", ") c.loop-i.invariant in
          put ∙ (λ k. before k ++ piece k) ∙ joined_more shown (codes ", ") names i name w.if-i-gt0.true more
      | else-i-gt0 w ↦
          put ∙ (λ k. (ap string_bytes w.text-is ∙ c.loop-i.invariant) k ++ piece k)
          ∙ joined_first shown (codes ", ") names i name w.if-i-gt0.false more
    ]

pub returns : goal.returns
returns c = c.loop-i.invariant ∙ ap names_text (take_all c.loop-i.i c.args.names.now c.loop-i-test.false)
