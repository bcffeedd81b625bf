use Rattle.std.proofs.Common.{string_bytes}
use Rattle.std.proofs.lemmas.List.Elements.{All-weaker}
use Rattle.smap_map_files.specs.Naming.{IsWanted}
use Rattle.smap_map_files.proofs.folders.names_in.Goals as goal

pub returns-then-branch : goal.returns-then-branch
returns-then-branch g c = (
  c.in-Ok.found.names.items,
  c.in-Ok.ensures.order,
  All-weaker _ (λ n. IsWanted (string_bytes n))
      (λ n w. w) c.in-Ok.found.names.items c.in-Ok.ensures.wanted,
  c.in-Ok.ensures.below,
  c.in_ok-names.ensures,
)
