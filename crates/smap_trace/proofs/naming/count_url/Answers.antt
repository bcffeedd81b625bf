use Rattle.std.proofs.Common.{◌≡◌, ◌∙◌, ap, bytes_eq, rules, sym}
use Rattle.std.specs.Global.{Vec}
use Rattle.indexmap.proofs.MapLemmas.{Found-position, Missing-position}
use Rattle.smap_trace.specs.Counting.{named_of}
use Rattle.smap_trace.proofs.NamingLemmas.{insert_absent, set_first}
use Rattle.smap_trace.proofs.naming.count_url.Goals as goal

pub returns-in-Some : goal.returns-in-Some
returns-in-Some c =
    let es = c.args.lines.now.entries in
    let url = c.args.url.now in
    set_first url es c.in-Some.i c.index.result.now c.saturating_add.result
    (Found-position (λ (k : Vec _). bytes_eq url k.items) es c.in-Some.i (sym c.in-Some.ensures.index)).first
    c.index.ensures c.saturating_add.ensures

pub returns : goal.returns
returns c =
    let es = c.args.lines.now.entries in
    let url = c.args.url.now in
    let key : c.extend_from_slice.new.self.items ≡ url = search rules in
    ap named_of c.in_ok-insert.ensures.entries
    ∙ insert_absent url es c.extend_from_slice.new.self key
    (Missing-position (λ (k : Vec _). bytes_eq url k.items) es (sym c.in_default.ensures.index)).absent
