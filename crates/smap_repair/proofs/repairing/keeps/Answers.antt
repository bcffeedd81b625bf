use Rattle.smap_repair.proofs.MemberLemmas.{kept}
use Rattle.smap_repair.proofs.repairing.keeps.Goals as goal

pub returns : goal.returns
returns c = kept c.args.old.now c.args.new.now c.in-Ok-Ok.before c.in-Ok-Ok.after c.in-Ok-Ok.ensures
    c.in-Ok-Ok.ensures' c.keeps_members.result c.keeps_members.ensures
