use Rattle.std.proofs.Common.{[], map}
use Rattle.serde_json.specs.View.{view}
use Rattle.smap_lint_rules.specs.Members.{machine_paths_of}
use Rattle.smap_lint_rules.proofs.MemberLemmas.{one_added}
use Rattle.smap_lint_rules.proofs.members.machine_paths.Goals as goal

pub loop-i-preserved : goal.loop-i-preserved
loop-i-preserved c =
    one_added machine_paths_of (λ m. view m.now) [] (map (λ p. p.now) c.loop-i.found.items)
    (map (λ p. p.now) c.add_sources.new.found.items) c.args.maps.now c.loop-i.i c.index-maps-i.result
    c.loop-i-test.true c.index-maps-i.is c.loop-i.invariant c.in_ok-add_sources.ensures
