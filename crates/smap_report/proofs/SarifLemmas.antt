-- A report as SARIF has no number but whole ones.
use Rattle.std.proofs.Common.{◌≡◌, ℕ, false, List, [], ◌∷◌, arith, map, Option, Some, None, refl}
use Rattle.std.proofs.Common.{string_bytes}
use Rattle.serde_json.specs.View.{items_of}
use Rattle.serde_json.specs.Written.{has_float, items_have_float}
use Rattle.smap_report.specs.declared.findings.Finding.{Finding}
use Rattle.smap_report.specs.declared.findings.Point.{Point}
use Rattle.smap_report.specs.declared.findings.Rule.{Rule}
use Rattle.smap_report.specs.Sarif.{location_tree, result_tree, rule_index, rule_tree, sarif_tree}

rules_whole : (rules : List Rule) → items_have_float (items_of (map rule_tree rules)) ≡ false
rules_whole [] = refl
rules_whole (r ∷ rs) = rules_whole rs

location_whole : (file : List ℕ) (point : Option Point) → has_float (location_tree file point) ≡ false
location_whole file None = refl
location_whole file (Some p) = refl

index_whole : (rules : List Rule) (n : ℕ) → has_float (rule_index rules n) ≡ false
index_whole rules n = grind arith

result_whole : (rules : List Rule) (f : Finding) → has_float (result_tree rules f) ≡ false
result_whole rules f = rw (location_whole (string_bytes f.file) f.point, index_whole rules f.rule) refl

results_whole : (rules : List Rule) (findings : List Finding)
    → items_have_float (items_of (map (result_tree rules) findings)) ≡ false
results_whole rules [] = refl
results_whole rules (f ∷ fs) = rw (result_whole rules f, results_whole rules fs) refl

pub all_whole : (tool version : List ℕ) (rules : List Rule) (findings : List Finding)
    → has_float (sarif_tree tool version rules findings) ≡ false
unfolding sarif_tree
all_whole tool version rules findings = rw (results_whole rules findings, rules_whole rules) refl
