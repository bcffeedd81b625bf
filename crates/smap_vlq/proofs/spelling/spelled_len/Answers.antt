use Rattle.std.proofs.Common.{ap, length, ◌∙◌, ℕ}
use Rattle.std.proofs.lemmas.Int.{to_z-of_z}
use mir.Syntax.{w32}
use Rattle.smap_vlq.specs.Number.{spelling, unsigned_of, unsigned_spelling}
use Rattle.smap_vlq.proofs.spelling.spelled_len.Goals as goal

pub returns-clause-len : goal.returns-clause-len
unfolding spelling
returns-clause-len c =
    c.digit_count.ensures.len
    ∙ ap (λ (u : ℕ). length (unsigned_spelling u))
    (c.unsigned_value.ensures ∙ ap unsigned_of (to_z-of_z w32 c.args.n c.ranges.n))
