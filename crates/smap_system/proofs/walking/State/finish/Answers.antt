use Rattle.std.proofs.Common.{string_bytes}
use Rattle.std.proofs.lemmas.List.Sorted.{All-permutation}
use Rattle.smap_system.specs.Walking.{IsWanted}
use Rattle.smap_system.proofs.walking.State.finish.Goals as goal

pub returns-clause-wanted : goal.returns-clause-wanted
returns-clause-wanted c endings h =
    All-permutation (λ name. IsWanted endings (string_bytes name)) _ _ c.sort.ensures.permutation h
