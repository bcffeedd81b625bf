use Rattle.std.proofs.Common.{◌≡◌, ◌∙◌, ◌+◌, ◌<◌, true, length, drop, get_or, sym, arith, length-drop, rules}
use Rattle.std.specs.Char.{is_ascii_digit}
use Rattle.std.proofs.lemmas.Bool.{eqb-true}
use Rattle.smap_trace.proofs.CuttingLemmas.{behind_colon, no_colon}
use Rattle.std.proofs.lemmas.List.{take_rest}
use Rattle.smap_trace.proofs.anywhere.holds_place.Goals as goal

pub returns-then-is_ascii_digit : goal.returns-then-is_ascii_digit
returns-then-is_ascii_digit c =
    let text = c.args.text.now in
    let at = c.colons.at in
    let met = rw (take_rest text at) at c.in-Some.ensures in
    let is : get_or (drop at text) c.in-Some.colon 0 ≡ 58 = eqb-true _ 58 met.1 in
    let digit : is_ascii_digit (get_or text (at + c.in-Some.colon + 1) 0) ≡ true = search rules in
    sym (c.colons.invariant.rest ∙ (behind_colon text at c.in-Some.colon met.0.high
    (λ i below. met.0.before i (omega arith) below) is).with_digit c.if-at-text.true digit)

pub colons-preserved : goal.colons-preserved
colons-preserved c =
    let text = c.args.text.now in
    let at = c.colons.at in
    let met = rw (take_rest text at) at c.in-Some.ensures in
    let is : get_or (drop at text) c.in-Some.colon 0 ≡ 58 = eqb-true _ 58 met.1 in
    let behind = behind_colon text at c.in-Some.colon met.0.high
    (λ i below. met.0.before i (omega arith) below) is in
    let lt : c.in-Some.colon < length (drop at text) = met.0.high in
    record {
      within = omega (arith, lt, length-drop at text);
      rest = c.colons.invariant.rest ∙ elim c.else-at-text.branch [
        | goal.else-at-text-via-then-at-text+else-is_ascii_digit w ↦
            behind.with_other w.if-at-text.true (search rules)
        | goal.else-at-text-via-else-at-text w ↦ behind.at_end w.if-at-text.false
      ];
    }

pub returns : goal.returns
returns c =
    let none = rw (take_rest c.args.text.now c.colons.at) at c.in_default.ensures in
    sym (c.colons.invariant.rest ∙ no_colon (drop c.colons.at c.args.text.now)
    (λ i below. none i (omega arith) below))
