use Rattle.std.proofs.Common.{ℕ, List, string_bytes, ◌≡◌, ◌∙◌, ap, sym, map-id, append-nil}
use Rattle.std.specs.List.{flat_map}
use Rattle.std.proofs.lemmas.Grind.{flat_map-append}
use Rattle.std.proofs.lemmas.Iterator.{YieldsList-from_chars}
use Rattle.std.proofs.lemmas.Iterator.Consumers.{YieldsList-end}
use Rattle.smap_view_page.specs.Markdown.{char_text, code}
use Rattle.smap_view_page.proofs.markdown.code.Goals as goal

pub loop-c-preserved : goal.loop-c-preserved
loop-c-preserved c = rw (flat_map-append, append-nil, ← c.loop-c.invariant) c.in_ok-push_char.ensures

pub returns : goal.returns
returns c =
    let done = YieldsList-end (YieldsList-from_chars c.args.text.now c.utf8.text cc) c.loop-c.yielded _
    c.loop-c.yielded_by _ _ c.in-None.is c.next.ensures.steps in
    let bytes : string_bytes c.loop-c.made ≡ code c.args.text.now =
    c.loop-c.invariant ∙ ap (λ (cs : List ℕ). flat_map char_text cs)
    (sym (map-id c.loop-c.yielded) ∙ done.0) in
    bytes
