use Rattle.std.proofs.Common.{◌<◌, ◌^◌, length, map, rules}
use Rattle.serde_json.specs.View.{view}
use Rattle.smap_differences.specs.Counts.{rows_of}
use Rattle.smap_differences.proofs.CountLemmas.{a_text, fits, no_text}
use Rattle.smap_differences.proofs.counting.counts_of.Goals as goal

pub loop-i-preserved-in_default : goal.loop-i-preserved-in_default
loop-i-preserved-in_default c =
    no_text c.args.entries.now c.loop-i.i c.index-entries-i.result (rows_of c.loop-i.counts.entries)
    c.loop-i-test.true c.index-entries-i.is c.in_default.ensures c.loop-i.invariant

pub add_text-requires : goal.add_text-requires
add_text-requires c =
    let most : length c.args.entries.now < 2 ^ 64 = search rules in
    fits (map view c.args.entries.now) c.loop-i.i (length c.args.entries.now) c.in-Some.text.now
    (rows_of c.loop-i.counts.entries) c.loop-i.invariant c.loop-i-test.true most

pub loop-i-preserved : goal.loop-i-preserved
loop-i-preserved c =
    a_text c.args.entries.now c.loop-i.i c.index-entries-i.result c.in-Some.text.now
    (rows_of c.loop-i.counts.entries) (rows_of c.add_text.new.counts.entries) c.loop-i-test.true
    c.index-entries-i.is c.in-Some.ensures c.loop-i.invariant c.in_ok-add_text.ensures
