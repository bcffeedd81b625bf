use Rattle.smap_fault_places.specs.Contexts.{PassedItems}
use Rattle.smap_fault_places.proofs.passing.pass_count.Given as goal

abbrev pub invariant-loop : goal.invariant-loop
invariant-loop l = PassedItems l.depth l.counter l.fn.reader l.reader
