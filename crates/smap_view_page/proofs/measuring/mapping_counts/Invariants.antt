use Rattle.std.proofs.Common.{◌≡◌, ◌+◌, length, drop}
use Rattle.smap_record.specs.Record.{record_of}
use Rattle.smap_view_page.specs.Owners.{owners}
use Rattle.smap_view_page.proofs.OwnerLemmas.{AreLeft}
use Rattle.smap_view_page.proofs.measuring.mapping_counts.Given as goal

abbrev pub invariant-loop-number : goal.invariant-loop-number
invariant-loop-number l = record {
  long : length l.counts.items ≡ length (record_of l.map).sources + 1;
  left : AreLeft l.counts.items (drop l.number (owners (record_of l.map))) (owners (record_of l.map));
}
