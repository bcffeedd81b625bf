use Rattle.std.proofs.Common.{◌≡◌, map, take}
use Rattle.serde_json.specs.View.{view}
use Rattle.smap_report.specs.Sarif as spec
use Rattle.smap_report.proofs.sarif.result_values.Given as goal

abbrev pub invariant-loop-finding : goal.invariant-loop-finding
invariant-loop-finding l =
    map view l.values.items ≡ map (spec.result_tree l.rules) (take l.finding-index l.findings)
