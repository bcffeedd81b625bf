use Rattle.smap_c.specs.Handles.{held_bytes}
use Rattle.smap_c.proofs.LinkLemmas.{given}
use Rattle.smap_c.proofs.links.give.Goals as goal

pub returns : goal.returns
returns c = λ said is.
    given c.args.answer said (held_bytes c.args.out.now.owner.value)
    (held_bytes c.put_answer.new.out.owner.value)
    c.put_answer.result is c.put_answer.ensures
