use Rattle.std.proofs.Common.{string_bytes, ◌≡◌, take}
use Rattle.std.specs.List.{flat_map}
use Rattle.smap_report.specs.Lines as spec
use Rattle.smap_report.proofs.lines.lines.Given as goal

abbrev pub invariant-loop-finding : goal.invariant-loop-finding
invariant-loop-finding l = string_bytes l.text
    ≡ flat_map (spec.line l.form l.report.rules.now) (take l.finding-index l.report.findings.now)
