use Rattle.std.proofs.Common.{◌≡◌, drop, map, string_bytes}
use Rattle.smap_report.specs.Junit as spec
use Rattle.smap_report.proofs.junit.case_files.Given as goal

abbrev pub invariant-loop-finding : goal.invariant-loop-finding
invariant-loop-finding l = spec.case_files (map string_bytes l.made.items) (drop l.finding-index l.findings)
    ≡ spec.case_files (map string_bytes l.files) l.findings
