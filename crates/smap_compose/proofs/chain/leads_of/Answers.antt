use Rattle.std.proofs.Common.{◌∙◌, [], ◌∷◌, ◌++◌, List, Option, ap, ℕ}
use Rattle.smap_record.specs.Record.{record_of}
use Rattle.smap_record.specs.Views.{entry_of_view}
use Rattle.smap_compose.specs.Closed.{number_in}
use Rattle.smap_compose.proofs.StandingLemmas.{push_mapped}
use Rattle.smap_compose.proofs.chain.leads_of.Goals as goal

pub loop-i-preserved : goal.loop-i-preserved
loop-i-preserved c =
    let rows = c.args.numbers.now.entries in
    let e = entry_of_view c.source.result in
    c.in_ok-push.ensures.items
    ∙ ap (λ (n : Option ℕ). c.loop-i.leads.items ++ n ∷ []) c.number_of.ensures
    ∙ ap (λ (ns : List (Option ℕ)). ns ++ number_in rows e ∷ []) c.loop-i.invariant
    ∙ push_mapped (number_in rows) [] (record_of c.args.map.now).sources c.loop-i.i e c.source.ensures
