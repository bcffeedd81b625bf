use Rattle.std.proofs.Common.{◌∙◌, sym}
use Rattle.serde_json.specs.View.{view}
use Rattle.smap_lint_rules.specs.Members.{absolute_root_of}
use Rattle.smap_lint_rules.proofs.MemberLemmas.{first_here, first_later}
use Rattle.smap_lint_rules.proofs.members.absolute_root.Goals as goal

pub returns-in-Some : goal.returns-in-Some
returns-in-Some c =
    first_here absolute_root_of (λ m. view m.now) c.args.maps.now c.loop-i.i c.index-maps-i.result
    c.in-Some.root.now c.loop-i-test.true c.index-maps-i.is c.in-Some.ensures ∙ sym c.loop-i.invariant

pub loop-i-preserved : goal.loop-i-preserved
loop-i-preserved c =
    c.loop-i.invariant ∙ first_later absolute_root_of (λ m. view m.now) c.args.maps.now c.loop-i.i
    c.index-maps-i.result c.loop-i-test.true c.index-maps-i.is c.in-None.ensures
