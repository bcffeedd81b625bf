use Rattle.std.proofs.Common.{◌≡◌, map, take}
use Rattle.serde_json.specs.View.{view}
use Rattle.smap_report.specs.Sarif as spec
use Rattle.smap_report.proofs.sarif.rule_values.Given as goal

abbrev pub invariant-loop-rule : goal.invariant-loop-rule
invariant-loop-rule l = map view l.values.items ≡ map spec.rule_tree (take l.rule-index l.rules)
