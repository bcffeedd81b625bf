use Rattle.std.proofs.Common.{◌≡◌, string_bytes, take}
use Rattle.smap_report.specs.Junit as spec
use Rattle.smap_report.proofs.junit.case_lines.Given as goal

abbrev pub invariant-loop-finding : goal.invariant-loop-finding
invariant-loop-finding l =
    string_bytes l.text ≡ spec.case_lines l.rules (take l.finding-index l.findings) l.file l.listed
