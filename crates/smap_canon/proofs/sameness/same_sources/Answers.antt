use Rattle.std.proofs.Common.{◌∙◌, sym}
use Rattle.smap_record.specs.Record.{record_of}
use Rattle.smap_record.specs.Views.{entry_of_view}
use Rattle.smap_record.proofs.EqualLemmas.{same_entries}
use Rattle.smap_canon.proofs.SamenessLemmas.{same_next}
use Rattle.smap_canon.proofs.sameness.same_sources.Goals as goal

pub loop-i-preserved : goal.loop-i-preserved
loop-i-preserved c =
    let x = entry_of_view c.source.result in
    let y = entry_of_view c.source-in-loop-i.result in
    same_next (record_of c.args.a.now).sources (record_of c.args.b.now).sources c.loop-i.i x y
    c.loop-i.invariant c.source.ensures c.source-in-loop-i.ensures
    (same_entries x y (sym c.same_source.ensures ∙ c.if-not-same_source.false))
