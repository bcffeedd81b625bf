-- A report as SARIF 2.1.0 (OASIS). Members are in byte order.
use Rattle.std.specs.Prelude.{ℕ, nat_eq, nat_lt, cond, length, negsuc, List, [], ◌++◌, codes, map, Option}
use Rattle.std.specs.Prelude.{Some, None, string_bytes}
use Rattle.std.specs.List.{starts_with}
use Rattle.serde_json.specs.Data.{Data, number, unsigned, negative, string, array, object, item, no_items}
use Rattle.serde_json.specs.Data.{member, no_members}
use Rattle.serde_json.specs.View.{items_of}
use Rattle.percent_encoding.specs.Percent.{percent_encode}
use Rattle.smap_report.specs.declared.findings.Finding.{Finding}
use Rattle.smap_report.specs.declared.findings.Point.{Point}
use Rattle.smap_report.specs.declared.findings.Rule.{Rule}
use Rattle.smap_report.specs.declared.sarif.TheConstants.{IN_URI}
use Rattle.smap_report.specs.Findings.{level_word, rule_name}

-- a path as a reference to a URI (3.4.3): a `file:` URI where it is absolute
abbrev pub uri : List ℕ → List ℕ
uri file = cond (starts_with nat_eq file (codes "/")) (codes "file://") [] ++ percent_encode IN_URI file

-- a message (3.11), and a rule's description: an object with a text
abbrev pub text_tree : List ℕ → Data
text_tree text = object (member (codes "text") (string text) no_members)

-- a rule: a reporting descriptor (3.49)
abbrev pub rule_tree : Rule → Data
rule_tree rule = object (member (codes "defaultConfiguration")
    (object (member (codes "level") (string (level_word rule.level)) no_members))
    (member (codes "id") (string rule.name.now)
    (member (codes "shortDescription") (text_tree rule.summary.now) no_members)))

-- where a result is (3.28 to 3.30)
abbrev pub artifact_tree : List ℕ → Data
artifact_tree file = object (member (codes "uri") (string (uri file)) no_members)

abbrev pub region_tree : Point → Data
region_tree p = object (member (codes "startColumn") (number (unsigned p.column))
    (member (codes "startLine") (number (unsigned p.line)) no_members))

abbrev pub location_tree : List ℕ → Option Point → Data
location_tree file None = object (member (codes "physicalLocation")
    (object (member (codes "artifactLocation") (artifact_tree file) no_members)) no_members)
location_tree file (Some p) = object (member (codes "physicalLocation")
    (object (member (codes "artifactLocation") (artifact_tree file)
    (member (codes "region") (region_tree p) no_members))) no_members)

-- the place of a result's rule in the list of rules (3.27.6), -1 for none
abbrev pub rule_index : List Rule → ℕ → Data
rule_index rules n = cond (nat_lt n (length rules)) (number (unsigned n)) (number (negative (negsuc 0)))

-- a result (3.27)
abbrev pub result_tree : List Rule → Finding → Data
result_tree rules f = object (member (codes "level") (string (level_word f.level))
    (member (codes "locations") (array (item (location_tree (string_bytes f.file) f.point) no_items))
    (member (codes "message") (text_tree (string_bytes f.message))
    (member (codes "ruleId") (string (rule_name rules f.rule))
    (member (codes "ruleIndex") (rule_index rules f.rule) no_members)))))

-- the tool (3.18, 3.19)
abbrev pub tool_tree : List ℕ → List ℕ → List Rule → Data
tool_tree tool version rules = object (member (codes "driver") (object (member (codes "name") (string tool)
    (member (codes "rules") (array (items_of (map rule_tree rules)))
    (member (codes "version") (string version) no_members)))) no_members)

-- the log of one run (3.13, 3.14)
abbrev pub run_tree : List ℕ → List ℕ → List Rule → List Finding → Data
run_tree tool version rules findings = object (member (codes "columnKind") (string (codes "utf16CodeUnits"))
    (member (codes "results") (array (items_of (map (result_tree rules) findings)))
    (member (codes "tool") (tool_tree tool version rules) no_members)))

abbrev pub schema : List ℕ
schema = codes "https://docs.oasis-open.org/sarif/sarif/v2.1.0/errata01/os/schemas/sarif-schema-2.1.0.json"

unfoldable pub sarif_tree : List ℕ → List ℕ → List Rule → List Finding → Data
sarif_tree tool version rules findings = object (member (codes "$schema") (string schema)
    (member (codes "runs") (array (item (run_tree tool version rules findings) no_items))
    (member (codes "version") (string (codes "2.1.0")) no_members)))
