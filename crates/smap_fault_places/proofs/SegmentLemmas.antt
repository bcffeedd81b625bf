-- What has to be tried of a segment's range, put together.
use Rattle.std.proofs.Common.{◌≡◌, ℕ, ◌+◌, ◌-◌, ◌≤◌, ◌<◌, List, length, take, drop, Some, true}
use Rattle.std.proofs.lemmas.List.{take_rest}
use Rattle.serde_json.specs.Data.{string}
use Rattle.serde_json.specs.Read.{read}
use Rattle.smap_mappings.specs.declared.error.SegmentPlace.{SegmentPlace}
use Rattle.smap_fault_places.specs.declared.range.TextRange.{TextRange}
use Rattle.smap_fault_places.specs.Ranges.{IsRangeOf, between}
use Rattle.smap_fault_places.specs.Segments.{IsSegmentIn, is_segment, quoted}
use Rattle.smap_fault_places.proofs.PlaceLemmas.{three_parts}

pub is_in : (text mappings : List ℕ) (within span r : TextRange) (place : SegmentPlace)
    → IsRangeOf (length mappings) span
    → (within.start < r.start) × (r.start ≤ r.end) × (r.end < within.end)
    → is_segment place (take span.start mappings) (take (span.end - span.start) (drop span.start mappings))
    (take (length mappings - span.end) (drop span.end mappings)) ≡ true
    → read (quoted (between (within.start + 1) r.start text)) ≡ Some (string (take span.start mappings))
    → read (quoted (between r.start r.end text))
    ≡ Some (string (take (span.end - span.start) (drop span.start mappings)))
    → IsSegmentIn text mappings within place r
is_in text mappings within span r place inside outer is first second = record {
  start = outer.0;
  ordered = outer.1;
  end = outer.2;
  before = take span.start mappings;
  segment = take (span.end - span.start) (drop span.start mappings);
  after = take (length mappings - span.end) (drop span.end mappings);
  parts = rw (take_rest mappings span.end) (three_parts span.start span.end mappings inside.0);
  is = is;
  reads_before = first;
  reads = second;
}
