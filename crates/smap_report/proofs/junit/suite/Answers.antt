use Rattle.std.proofs.Common.{◌≡◌, ◌∙◌, IfOk, List, ℕ, string_bytes, subst}
use Rattle.smap_report.proofs.FileLemmas.{suite_is}
use Rattle.smap_report.proofs.junit.suite.Goals as goal

pub returns : goal.returns
returns c = subst (λ (x : List ℕ). IfOk c.suite_words.result (λ t. string_bytes t ≡ x))
    (suite_is c.args.report.now.tool.now c.args.report.now.rules.now c.args.report.now.findings.now
    c.args.files.now c.deref.result.now c.count_failures-failures.result c.deref-2.result.now
    (c.deref.ensures ∙ c.in_ok-name.ensures) c.count_failures-failures.ensures
    (c.deref-2.ensures ∙ c.in_ok-cases.ensures)) c.suite_words.ensures
