use Rattle.std.proofs.Common.{◌≡◌, string_bytes, take}
use Rattle.std.specs.List.{flat_map}
use Rattle.smap_report.specs.Junit as spec
use Rattle.smap_report.proofs.junit.cases.Given as goal

abbrev pub invariant-loop-file : goal.invariant-loop-file
invariant-loop-file l = string_bytes l.text ≡ flat_map (λ file. spec.case l.report.tool.now l.report.rules.now
    l.report.findings.now (string_bytes file)) (take l.file-index l.files)
