use Rattle.std.proofs.Common.{rules}
use Rattle.smap_fault_places.proofs.PassLemmas.{object-start, object-more}
use Rattle.smap_fault_places.proofs.passing.pass_to_name.Goals as goal

pub members-init : goal.members-init
members-init c = object-start c.args.depth c.args.reader.now c.next.new.self (search rules)

pub members-preserved : goal.members-preserved
members-preserved c = object-more c.args.depth c.args.reader.now c.members.reader c.next-in-members.new.self
    c.skip_value.new.self c.in-Key.field-0.now c.members.invariant (search rules) (search rules)
