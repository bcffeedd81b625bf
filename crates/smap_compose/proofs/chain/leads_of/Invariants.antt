use Rattle.std.proofs.Common.{◌≡◌, map, take}
use Rattle.smap_record.specs.Record.{record_of}
use Rattle.smap_compose.specs.Closed.{number_in}
use Rattle.smap_compose.proofs.chain.leads_of.Given as goal

-- the sources that were gone through have their numbers
abbrev pub invariant-loop-i : goal.invariant-loop-i
invariant-loop-i l = l.leads.items ≡ map (number_in l.numbers.entries) (take l.i (record_of l.map).sources)
