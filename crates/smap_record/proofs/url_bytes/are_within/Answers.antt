use Rattle.std.proofs.Common.{◌<◌, arith, length, option_copied}
use Rattle.smap_record.proofs.UrlBytesLemmas.{url_bytes_more, url_bytes_at_least, none_left}
use Rattle.smap_record.proofs.url_bytes.are_within.Goals as goal

pub returns-in-None : goal.returns-in-None
returns-in-None c =
    let within : c.loop-i.i < length c.args.written.now =
    omega (arith, c.loop-i-test.true, c.len-i-end.ensures) in
    let least = url_bytes_at_least c.args.base.now c.args.written.now c.loop-i.i (option_copied c.root.result)
    (option_copied c.source.result) within c.root.ensures c.source.ensures in
    let beyond = rw c.in-None.is at c.in_ok-bytes.ensures in
    none_left c.loop-i.left _ _ _ _ c.loop-i.invariant least beyond

pub loop-i-preserved : goal.loop-i-preserved
loop-i-preserved c =
    let within : c.loop-i.i < length c.args.written.now =
    omega (arith, c.loop-i-test.true, c.len-i-end.ensures) in
    let more = url_bytes_more c.args.base.now c.args.written.now c.loop-i.i (option_copied c.root.result)
    (option_copied c.source.result) within c.root.ensures c.source.ensures in
    let left = rw c.in-Some.is at c.in_ok-bytes.ensures in
    omega (arith, more, left.0, left.1)
