use Rattle.std.proofs.Common.{◌≡◌, ◌≤◌, ◌<◌, ◌+◌, ◌-◌, ◌^◌, ◌∙◌, sym, length, set, get_or, min, arith}
use Rattle.std.proofs.Common.{length-set, ℕ}
use Rattle.std.proofs.lemmas.List.{take_at, length-map, drop_all, length-replicate}
use Rattle.smap_record.specs.Record.{Mapping, record_of}
use Rattle.smap_view_page.specs.Owners.{owner, owners}
use Rattle.smap_view_page.proofs.OwnerLemmas.{all_left, next_left, none_left}
use Rattle.smap_view_page.proofs.PlaceLemmas.{few}
use Rattle.smap_view_page.proofs.measuring.mapping_counts.Goals as goal

pub loop-number-init : goal.loop-number-init
loop-number-init c =
    let r = record_of c.args.map.now in
    let size = length r.sources + 1 in
    let count : c.saturating_add.result ≡ size = omega (arith, few c.args.map.now.listing.sources) in
    rw (c.in_ok-counts.ensures, count) (record {
      long = length-replicate {A = ℕ} size 0;
      left = all_left size (owners r);
    })

pub loop-number-preserved : goal.loop-number-preserved
loop-number-preserved c =
    let r = record_of c.args.map.now in
    let old = c.loop-number.counts.items in
    let i = c.owner_of.result in
    let more = min (get_or old i 0 + 1) (2 ^ 64 - 1) in
    let added : c.add.new.bytes ≡ set old i more = rw c.deref_mut.ensures.value at c.add.ensures.place in
    let same = length-set old i more in
    let long : length c.add.new.bytes ≡ c.loop-number.counts.len =
    rw (added, same) (sym c.loop-number.counts.ok.0) in
    let below : i < length old = omega arith in
    let count = length-map r.mappings (λ (m : Mapping). owner r.sources m.origin) in
    let least : length (owners r) ≤ 2 ^ 64 - 1 = omega (arith, count) in
    rw (take_at c.add.new.bytes _ c.loop-number.counts.len long, added) (record {
      long = same ∙ c.loop-number.invariant.long;
      left = next_left old (owners r) c.loop-number.number i (2 ^ 64 - 1) c.owner_of.ensures.owner below
          least c.loop-number.invariant.left;
    })

pub returns-clause-counts : goal.returns-clause-counts
returns-clause-counts c =
    let r = record_of c.args.map.now in
    let count = length-map r.mappings (λ (m : Mapping). owner r.sources m.origin) in
    let past : length (owners r) ≤ c.loop-number.number = omega (arith, count) in
    none_left c.loop-number.counts.items (owners r) (length r.sources + 1) c.loop-number.invariant.long
    (rw (drop_all c.loop-number.number (owners r) past) at c.loop-number.invariant.left)

pub returns-clause-few_sources : goal.returns-clause-few_sources
returns-clause-few_sources c = omega (arith, few c.args.map.now.listing.sources)
