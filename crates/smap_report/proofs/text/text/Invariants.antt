use Rattle.std.proofs.Common.{◌≡◌, string_bytes}
use Rattle.smap_report.specs.Text as spec
use Rattle.smap_report.proofs.text.text.Given as goal

abbrev pub invariant-loop-index : goal.invariant-loop-index
invariant-loop-index l = string_bytes l.text ≡ spec.rows l.report.rules.now l.report.findings.now l.index
