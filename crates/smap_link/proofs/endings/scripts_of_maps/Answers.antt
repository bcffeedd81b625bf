use Rattle.std.proofs.Common.{◌∙◌, ℕ, ap, map}
use Rattle.std.specs.Global.{Vec}
use Rattle.smap_link.proofs.endings.scripts_of_maps.Goals as goal

pub returns : goal.returns
returns c =
    let wanted = ap (map (λ (p : Vec ℕ). p.items)) c.deref.ensures.value ∙ c.in_ok-stems.ensures in
    let paths = ap (map (λ (p : Vec ℕ). p.items)) c.deref-2.ensures.value ∙ c.in_ok-paths.ensures in
    rw (← wanted, ← paths) c.each_most_alike.ensures
