use Rattle.std.proofs.Common.{◌∙◌, ap, map}
use Rattle.serde_json.specs.Find.{as_array}
use Rattle.serde_json.specs.View.{view}
use Rattle.smap_lint_rules.proofs.MemberLemmas.{listed}
use Rattle.smap_lint_rules.proofs.members.values_of.Goals as goal

pub returns-in-Some : goal.returns-in-Some
returns-in-Some c =
    ap (map view) c.as_slice.ensures.value
    ∙ listed (as_array (view c.args.value.now)) c.in-Some.values.now.items c.in-Some.ensures
