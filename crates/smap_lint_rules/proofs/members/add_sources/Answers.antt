use Rattle.std.proofs.Common.{map}
use Rattle.serde_json.specs.View.{view}
use Rattle.smap_lint_rules.specs.Members.{machine_path_of}
use Rattle.smap_lint_rules.proofs.MemberLemmas.{one_added}
use Rattle.smap_lint_rules.proofs.members.add_sources.Goals as goal

pub loop-i-preserved : goal.loop-i-preserved
loop-i-preserved c =
    one_added machine_path_of view (map (λ p. p.now) c.args.found.now.items)
    (map (λ p. p.now) c.loop-i.found.items) (map (λ p. p.now) c.add_source.new.found.items)
    c.sources_of-sources.result.now c.loop-i.i c.index-sources-i.result
    c.loop-i-test.true c.index-sources-i.is c.loop-i.invariant c.in_ok-add_source.ensures
