use Rattle.std.proofs.Common.{inr, refl, rules}
use Rattle.std.specs.Prelude.{IsUtf8}
use Rattle.smap_c.proofs.BuildingLemmas.{not_text}
use Rattle.smap_c.proofs.building.smap_builder_source.Goals as goal

pub returns-in_default : goal.returns-in_default
returns-in_default c =
    let wrong : IsUtf8 c.args.url.now → ⊥ = search rules in
    inr (not_text c.args.has_url c.args.url.now c.if-not-has_url.false wrong, refl, refl, refl)
