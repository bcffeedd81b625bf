-- What holds of the lines of findings, whatever their files and messages are.
use Rattle.std.specs.Prelude.{◌≡◌, ℕ, ◌<◌, ◌^◌, ◌==◌, Bool, false, IfSome, List, ◌++◌, codes, Option}
use Rattle.std.specs.List.{list_any}
use Rattle.smap_report.specs.declared.findings.Finding.{Finding}
use Rattle.smap_report.specs.declared.findings.Point.{Point}
use Rattle.smap_report.specs.declared.findings.Rule.{Rule}
use Rattle.smap_report.specs.Findings.{rule_name}
use Rattle.smap_report.specs.Junit.{case_line}
use Rattle.smap_report.specs.Lines.{github_line, gnu_line, json_line}
use Rattle.smap_report.specs.Text.{row}

abbrev pub holds_byte : ℕ → List ℕ → Bool
holds_byte b text = list_any (λ x. x == b) text

-- a line feed, and none before it
pub record IsLine (text : List ℕ) : Type 0 where
  pub body : List ℕ
  pub whole : text ≡ body ++ codes "\n"
  pub one : holds_byte 10 body ≡ false

-- the names of rules, which are the program's own, have no line feed
abbrev pub AreNamed : List Rule → Type 0
AreNamed rules = (n : ℕ) → holds_byte 10 (rule_name rules n) ≡ false

-- the numbers of a place have 64 bits, as they do in the code
abbrev pub IsPlace : Option Point → Type 0
IsPlace point = IfSome point (λ p. (p.line < 2 ^ 64) × (p.column < 2 ^ 64))

-- a finding is one line in each form that has lines, and within JUnit's XML
pub record AreLines (rules : List Rule) (f : Finding) : Type 0 where
  pub for_people : IsLine (row rules f)
  pub for_gnu : IsLine (gnu_line rules f)
  pub for_github : IsLine (github_line rules f)
  pub for_json : IsLine (json_line rules f)
  pub in_junit : IsLine (case_line rules f)

abbrev pub FindingsAreLines : Type 0
FindingsAreLines = (rules : List Rule) (f : Finding) → AreNamed rules → IsPlace f.point → AreLines rules f
