use Rattle.std.proofs.Common.{◌≡◌, ◌+◌, ℕ, map, take}
use Rattle.smap_record.specs.Record.{record_of}
use Rattle.smap_compose.specs.Composing.{Maps}
use Rattle.smap_compose.specs.Deep.{AllLead, composed, each_by_numbers}
use Rattle.smap_compose.proofs.deep.compose_each.Given as goal

-- the maps that were gone through are composed
abbrev pub invariant-loop-k : goal.invariant-loop-k
invariant-loop-k l = record {
  deep : (n : ℕ) (find : Maps) → AllLead l.maps find l.leads
      → map record_of l.inner ≡ map (λ x. composed n find (record_of x)) l.maps
      → map record_of l.all.items ≡ map (λ x. composed (n + 1) find (record_of x)) (take l.k l.maps);
  numbers : map record_of l.all.items ≡ each_by_numbers (take l.k l.maps) l.leads (map record_of l.inner);
}
