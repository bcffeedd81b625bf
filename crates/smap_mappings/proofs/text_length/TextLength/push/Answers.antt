use Rattle.std.proofs.Common.{◌∙◌, ◌++◌, ap, refl, arith, length, length-append}
use Rattle.smap_mappings.specs.declared.running.Running.{Running}
use Rattle.smap_mappings.specs.Text.{mappings_text}
use Rattle.smap_mappings.specs.Writing.{segment_from, running_after, separator, at_line}
use Rattle.smap_mappings.proofs.EncodingLemmas.{goes_on}
use Rattle.smap_mappings.proofs.text_length.TextLength.push.Goals as goal

pub returns : goal.returns
returns c tokens e h =
    let t = c.args.token in
    let old = c.args.self.now in
    let text = mappings_text tokens in
    let running = at_line old.running old.lines t.line in
    let next = (text ++ separator old.lines t.line) ++ segment_from running t in
    let fed = goes_on tokens text next old.running old.lines t e.encoded h refl in
    let after = c.after-self.ensures ∙ ap (λ (r : Running). running_after r t) c.on_line-running.ensures in
    let segment =
    c.segment_len.ensures.len ∙ ap (λ (r : Running). length (segment_from r t)) c.on_line-running.ensures in
    record {
      len_is = omega (
        arith,
        c.saturating_add-self.ensures,
        e.len_is,
        ap length fed.text,
        length-append (text ++ separator old.lines t.line) (segment_from running t),
        length-append text (separator old.lines t.line),
        c.separator_len.ensures,
        segment,
      );
      encoded = rw after (rw fed.text at fed);
    }
