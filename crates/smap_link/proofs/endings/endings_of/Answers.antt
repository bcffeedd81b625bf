use Rattle.std.proofs.Common.{◌∙◌, ℕ, List, ap, sym, map}
use Rattle.std.specs.Global.{Vec}
use Rattle.smap_link.proofs.EndingLemmas.{item_at}
use Rattle.smap_link.proofs.endings.endings_of.Goals as goal

pub loop-i-preserved : goal.loop-i-preserved
loop-i-preserved c =
    let paths = map {A = Vec ℕ} {B = List ℕ} (λ p. p.items) c.args.paths.now in
    c.in_ok-add_path.ensures paths
    (sym (c.deref.ensures.value ∙ ap (λ (v : Vec ℕ). v.items) c.index-paths-i.is
    ∙ item_at c.args.paths.now c.loop-i.i _ c.loop-i-test.true)) c.loop-i.invariant
