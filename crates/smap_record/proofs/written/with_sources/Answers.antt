use Rattle.std.proofs.Common.{◌∙◌, ◌++◌, ◌∷◌, [], ap, map}
use Rattle.std.specs.Prelude.{option_copied}
use Rattle.smap_record.specs.WrittenView.{numbered_of}
use Rattle.smap_record.proofs.ListLemmas.{map-push}
use Rattle.smap_record.proofs.WrittenLemmas.{with_next}
use Rattle.smap_record.proofs.written.with_sources.Goals as goal

pub loop-i-preserved : goal.loop-i-preserved
loop-i-preserved c =
    ap (map numbered_of) c.in_ok-push.ensures.items
    ∙ map-push numbered_of c.loop-i.sources.items
    (record { text = c.in_ok-text.text; root = c.args.root })
    ∙ (λ j. c.loop-i.invariant j ++ (c.in_ok-text.ensures j, c.args.root) ∷ [])
    ∙ with_next c.args.root (map numbered_of c.args.before.items) c.args.shape.now.sources c.loop-i.i
    (option_copied c.source.result) c.source.ensures
