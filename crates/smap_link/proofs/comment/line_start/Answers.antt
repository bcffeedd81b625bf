use Rattle.std.proofs.Common.{◌∙◌, sym, true≢false, arith}
use Rattle.smap_link.proofs.SeparatorLemmas.{at_newline, at_separator, none_at_all, none_here}
use Rattle.smap_link.proofs.comment.line_start.Goals as goal

pub returns-in_default : goal.returns-in_default
returns-in_default c =
    none_at_all c.args.text.now c.places.end c.places.invariant.0 c.places.invariant.1 c.in_default.ensures

pub returns-then-text-at : goal.returns-then-text-at
returns-then-text-at c =
    at_newline c.args.text.now c.places.end c.places.invariant.0 c.places.invariant.1 c.in-Some.at
    c.in-Some.ensures (grind (arith, c.if-text-at.true))

pub returns-then-is_separator : goal.returns-then-is_separator
returns-then-is_separator c =
    at_separator c.args.text.now c.places.end c.places.invariant.0 c.places.invariant.1 c.in-Some.at
    c.in-Some.ensures (c.is_separator.ensures.within c.if-is_separator.true)
    (c.is_separator.ensures.value.0 c.if-is_separator.true)

pub places-preserved : goal.places-preserved
places-preserved c =
    none_here c.args.text.now c.places.end c.places.invariant.0 c.places.invariant.1 c.in-Some.at
    c.in-Some.ensures (grind (arith, c.if-text-at.false))
    (λ is. true≢false (sym (c.is_separator.ensures.value.1 is) ∙ c.if-is_separator.false))
