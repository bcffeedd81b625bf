-- A report in each of its forms.
use Rattle.std.specs.Prelude.{ℕ, List, ◌++◌, codes, length, map, string_bytes}
use Rattle.std.specs.List.{flat_map}
use Rattle.smap_report.specs.declared.findings.Report.{Report}
use Rattle.smap_report.specs.declared.formats.Format.{Format}
use Rattle.smap_report.specs.declared.formats.Format.TheVariants as formats
use Rattle.smap_report.specs.declared.lines.LineForm.{LineForm}
use Rattle.smap_report.specs.declared.lines.LineForm.TheVariants.{Gnu, Github, Json}
use Rattle.smap_report.specs.Escapes.{json_text}
use Rattle.smap_report.specs.Junit.{suite, case_files}
use Rattle.smap_report.specs.Lines.{line}
use Rattle.smap_report.specs.Sarif.{sarif_tree}
use Rattle.smap_report.specs.Text.{rows}
use Rattle.smap_report.specs.Phrases.{summary}

-- for people: the findings below the names of their files, and how many there are
abbrev pub text : Report → List ℕ
text r = rows r.rules.now r.findings.now (length r.findings.now)
    ++ summary r.findings.now (length r.files.now)

-- a line for each finding
abbrev pub lines : LineForm → Report → List ℕ
lines form r = flat_map (line form r.rules.now) r.findings.now

-- SARIF in one line
abbrev pub sarif : Report → List ℕ
sarif r = json_text (sarif_tree r.tool.now r.version.now r.rules.now r.findings.now) ++ codes "\n"

-- JUnit's XML, with a test case for each file
abbrev pub junit : Report → List ℕ
junit r = suite r.tool.now r.rules.now (case_files (map string_bytes r.files.now) r.findings.now)
    r.findings.now

abbrev pub report_text : Report → Format → List ℕ
report_text r formats.Text = text r
report_text r formats.Gnu = lines Gnu r
report_text r formats.Github = lines Github r
report_text r formats.Sarif = sarif r
report_text r formats.Junit = junit r
report_text r formats.Json = lines Json r
