use Rattle.std.proofs.Common.{◌≡◌, drop}
use Rattle.smap_extract.specs.Renaming as spec
use Rattle.smap_extract.proofs.renaming.renamed.Given as goal

abbrev pub invariant-loop-prefix : goal.invariant-loop-prefix
invariant-loop-prefix l = spec.renamed (spec.prefixes_in l.prefixes) l.source
    ≡ spec.renamed (spec.prefixes_in (drop l.prefix-index l.prefixes)) l.source
