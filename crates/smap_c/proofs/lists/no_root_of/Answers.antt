use Rattle.std.proofs.Common.{◌<◌, ◌≤◌, length, rules}
use Rattle.smap_c.proofs.MapLemmas.{no_root, no_source}
use Rattle.smap_c.proofs.lists.no_root_of.Goals as goal

pub returns-then-i-listed_count : goal.returns-then-i-listed_count
returns-then-i-listed_count c =
    let within : c.args.i < length c.args.map.now.listing.sources = search rules in
    no_root c.args.map.now c.args.i c.args.out.now c.report_text.new.out c.report_text.new.len
    c.report_text.result within c.report_text.ensures

pub returns-else-i-listed_count : goal.returns-else-i-listed_count
returns-else-i-listed_count c =
    let past : length c.args.map.now.listing.sources ≤ c.args.i = search rules in
    no_source c.args.map.now c.args.i c.args.out.now past
