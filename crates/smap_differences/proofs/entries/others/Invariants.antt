use Rattle.std.proofs.Common.{◌≡◌, string_bytes, take}
use Rattle.std.specs.List.{flat_map}
use Rattle.smap_differences.specs.Changes.{other}
use Rattle.smap_differences.proofs.entries.others.Given as goal

abbrev pub invariant-loop-text : goal.invariant-loop-text
invariant-loop-text l = string_bytes l.line ≡ flat_map (λ t. other t.now) (take l.text-index l.texts)
