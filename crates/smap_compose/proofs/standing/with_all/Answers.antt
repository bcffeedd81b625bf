use Rattle.std.proofs.Common.{◌∙◌, [], ◌∷◌, ◌++◌, List, ap}
use Rattle.smap_record.specs.Record.{Entry, record_of}
use Rattle.smap_record.specs.Views.{entry_of_view}
use Rattle.smap_compose.specs.Composing.{under}
use Rattle.smap_compose.proofs.StandingLemmas.{push_mapped}
use Rattle.smap_compose.proofs.standing.with_all.Goals as goal

pub loop-i-preserved : goal.loop-i-preserved
loop-i-preserved c =
    let f = under c.args.ignored in
    let e = entry_of_view c.source.result in
    c.in_ok-sources.ensures
    ∙ ap (λ (x : Entry). c.loop-i.sources ++ x ∷ []) c.under.ensures
    ∙ ap (λ (es : List Entry). es ++ f e ∷ []) c.loop-i.invariant
    ∙ push_mapped f c.args.before (record_of c.args.map.now).sources c.loop-i.i e c.source.ensures
