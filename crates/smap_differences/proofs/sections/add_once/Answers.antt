use Rattle.smap_differences.proofs.DropLemmas.{name_added, texts}
use Rattle.smap_differences.proofs.sections.add_once.Goals as goal

pub loop-i-preserved : goal.loop-i-preserved
loop-i-preserved c =
    name_added (texts c.args.found.now.keys) c.args.names.now c.loop-i.i _ c.loop-i.found.keys
    c.add_name.new.found.keys c.loop-i-test.true c.loop-i.invariant c.in_ok-add_name.ensures
