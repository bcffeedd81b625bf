use Rattle.std.proofs.Common.{◌∙◌, ℕ, Option, ap}
use Rattle.smap_map_choice.specs.Picks.{found_of}
use Rattle.smap_map_choice.proofs.picks.pick_one.Goals as goal

pub returns-clause-found : goal.returns-clause-found
returns-clause-found c = λ scripts files t is. (
  c.args.end,
  (
    is,
    c.found_of-found.ensures
        ∙ ap (λ (o : Option ℕ). found_of o c.args.end) (c.in_ok-script.ensures.value scripts t),
  ),
)
