use Rattle.std.proofs.Common.{◌<◌, ◌≤◌, ◌+◌, ◌-◌, ◌^◌, length, get_or, arith}
use Rattle.std.proofs.lemmas.List.Sums.{get_or-le-sum_by}
use Rattle.smap_record.specs.Record.{record_of}
use Rattle.smap_view_page.proofs.OwnerLemmas.{adds_one}
use Rattle.smap_view_page.proofs.ReachLemmas.{on_column}
use Rattle.smap_view_page.proofs.measuring.spot.Goals as goal

pub returns-clause-reached : goal.returns-clause-reached
returns-clause-reached c = rw c.next_column.ensures
    (on_column (record_of c.args.map.now) c.advanced-cursor.result c.advanced-cursor.ensures.reached)

pub returns-clause-added : goal.returns-clause-added
returns-clause-added c =
    let old = c.args.bytes.now in
    let i = c.advanced-cursor.result.owner in
    let below : i < length old = omega (arith, c.requires.bytes, c.advanced-cursor.ensures.owner) in
    let part = get_or-le-sum_by (λ n. n) old i 0 below in
    let fits : get_or old i 0 + c.args.count ≤ 2 ^ 64 - 1 = omega (arith, part, c.requires.fits) in
    rw (c.add.ensures.place, ← c.advanced-cursor.ensures.found)
    (adds_one old i c.args.count (2 ^ 64 - 1) below fits)
