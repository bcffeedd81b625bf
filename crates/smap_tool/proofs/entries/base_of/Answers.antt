use Rattle.std.proofs.Common.{◌≡◌, ◌∙◌, ◌≤◌, Err, sym, arith}
use Rattle.smap_io.specs.Limits.{longest_input}
use Rattle.smap_tool.specs.declared.fault.EntryFault.TheVariants as wrong
use Rattle.smap_tool.specs.Bundle.{entry_with}
use Rattle.smap_tool.specs.Entries.{refusal}
use Rattle.smap_tool.proofs.EntryLemmas.{no_base, refused_at, repeated}
use Rattle.smap_tool.proofs.StopLemmas.{says_as}
use Rattle.smap_tool.proofs.entries.base_of.Goals as goal

pub returns-then-has_script-clause-stops : goal.returns-then-has_script-clause-stops
returns-then-has_script-clause-stops c = λ n more e.
    let seen = c.args.scripts.now in
    let script = c.args.header.now.script.now in
    let base = c.args.header.now.base.now in
    let fits : n ≤ longest_input = omega (arith, e) in
    let at = c.len.ensures in
    let known = sym c.has_script.ensures ∙ c.if-has_script.true in
    says_as (λ found. found ≡ refusal c.len.result wrong.Repeated)
    (λ found. entry_with seen (record { script = script; base = base; bytes = n }) more ≡ Err found)
    (λ found is. refused_at seen c.len.result wrong.Repeated found at is
    (repeated seen script base n more fits known)) c.refused.result c.refused.ensures

pub returns-in-Ok-clause-new : goal.returns-in-Ok-clause-new
returns-in-Ok-clause-new c = sym c.has_script.ensures ∙ c.if-has_script.false

pub returns-in-Err-NotUrl-clause-stops : goal.returns-in-Err-NotUrl-clause-stops
returns-in-Err-NotUrl-clause-stops c = λ n more e.
    let seen = c.args.scripts.now in
    let script = c.args.header.now.script.now in
    let base = c.args.header.now.base.now in
    let fits : n ≤ longest_input = omega (arith, e) in
    let at = c.len-in-Err-NotUrl.ensures in
    let new = sym c.has_script.ensures ∙ c.if-has_script.false in
    let bad = rw c.in-Err-NotUrl.field-0-is at c.in-Err-NotUrl.ensures in
    says_as (λ found. found ≡ refusal c.len-in-Err-NotUrl.result wrong.Base)
    (λ found. entry_with seen (record { script = script; base = base; bytes = n }) more ≡ Err found)
    (λ found is. refused_at seen c.len-in-Err-NotUrl.result wrong.Base found at is
    (no_base seen script base n fits new more bad))
    c.refused-in-Err-NotUrl.result c.refused-in-Err-NotUrl.ensures
