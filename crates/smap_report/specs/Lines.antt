-- The forms of a report that have a line for each finding.
use Rattle.std.specs.Prelude.{ℕ, List, [], ◌++◌, codes, decimal, Option, option_map, string_bytes}
use Rattle.std.specs.Option.{option_map_or}
use Rattle.serde_json.specs.Data.{Data, null, number, unsigned, string, object, member, no_members}
use Rattle.smap_system.specs.Printing.{printable}
use Rattle.smap_report.specs.declared.escapes.Place.TheVariants.{Data as message_data, Property}
use Rattle.smap_report.specs.declared.findings.Finding.{Finding}
use Rattle.smap_report.specs.declared.findings.Level.{Level}
use Rattle.smap_report.specs.declared.findings.Level.TheVariants.{Note, Warning, Error}
use Rattle.smap_report.specs.declared.findings.Point.{Point}
use Rattle.smap_report.specs.declared.findings.Rule.{Rule}
use Rattle.smap_report.specs.declared.lines.LineForm.{LineForm}
use Rattle.smap_report.specs.declared.lines.LineForm.TheVariants.{Gnu, Github, Json}
use Rattle.smap_report.specs.Escapes.{json_text, shown}
use Rattle.smap_report.specs.Findings.{level_word, rule_name}
use Rattle.smap_report.specs.Phrases.{place_text}

-- `FILE:LINE:COLUMN: level: message [rule]`: GNU Coding Standards, "Formatting Error Messages".
abbrev pub gnu_line : List Rule → Finding → List ℕ
gnu_line rules f = printable (string_bytes f.file) ++ (place_text (codes ":") f.point [] ++ (codes ": "
    ++ (level_word f.level ++ (codes ": " ++ (printable (string_bytes f.message) ++ (codes " ["
    ++ (rule_name rules f.rule ++ codes "]\n")))))))

abbrev pub command : Level → List ℕ
command Note = codes "notice"
command Warning = codes "warning"
command Error = codes "error"

abbrev pub github_place : Option Point → List ℕ
github_place point =
    option_map_or (λ p. codes ",line=" ++ (decimal p.line ++ (codes ",col=" ++ decimal p.column))) point []

-- `::error file=FILE,line=LINE,col=COLUMN,title=rule::message`: a workflow command of GitHub Actions.
abbrev pub github_line : List Rule → Finding → List ℕ
github_line rules f = codes "::" ++ (command f.level ++ (codes " file="
    ++ (shown Property (string_bytes f.file) ++ (github_place f.point ++ (codes ",title="
    ++ (shown Property (rule_name rules f.rule) ++ (codes "::"
    ++ (shown message_data (string_bytes f.message) ++ codes "\n"))))))))

abbrev pub number_or_null : Option ℕ → Data
number_or_null n = option_map_or (λ k. number (unsigned k)) n null

-- a finding as JSON: a place that isn't there is null
abbrev pub json_tree : List Rule → Finding → Data
json_tree rules f = object (member (codes "column") (number_or_null (option_map (λ p. p.column) f.point))
    (member (codes "file") (string (string_bytes f.file))
    (member (codes "level") (string (level_word f.level))
    (member (codes "line") (number_or_null (option_map (λ p. p.line) f.point))
    (member (codes "message") (string (string_bytes f.message))
    (member (codes "rule") (string (rule_name rules f.rule)) no_members))))))

abbrev pub json_line : List Rule → Finding → List ℕ
json_line rules f = json_text (json_tree rules f) ++ codes "\n"

abbrev pub line : LineForm → List Rule → Finding → List ℕ
line Gnu rules f = gnu_line rules f
line Github rules f = github_line rules f
line Json rules f = json_line rules f
