use Rattle.std.proofs.Common.{arith, ◌++◌, ℕ, ap, take, ◌∙◌}
use Rattle.std.proofs.lemmas.Int.{to_z-of_z}
use mir.Syntax.{w32}
use Rattle.smap_vlq.specs.Number.{spelling, unsigned_spelling, unsigned_of}
use Rattle.smap_vlq.proofs.SpellingLemmas.{one_digit, two_digits}
use Rattle.smap_vlq.proofs.spelling.spell_at.Goals as goal

pub returns-then-unsigned-lt32-clause-text : goal.returns-then-unsigned-lt32-clause-text
unfolding spelling
returns-then-unsigned-lt32-clause-text c =
    let e = c.unsigned_value-unsigned.ensures ∙ ap unsigned_of (to_z-of_z w32 c.args.n c.ranges.n) in
    rw c.byte_of.ensures (one_digit c.args.out.now c.args.at c.unsigned_value-unsigned.result
    c.requires.room c.if-unsigned-lt32.true)
    ∙ ap (λ (u : ℕ). take c.args.at c.args.out.now ++ unsigned_spelling u) e

pub returns-then-unsigned-lt1024-clause-text : goal.returns-then-unsigned-lt1024-clause-text
unfolding spelling
returns-then-unsigned-lt1024-clause-text c =
    let e = c.unsigned_value-unsigned.ensures ∙ ap unsigned_of (to_z-of_z w32 c.args.n c.ranges.n) in
    rw (c.byte_of-then-unsigned-lt1024.ensures, c.byte_of-then-unsigned-lt1024-2.ensures)
    (two_digits c.args.out.now c.args.at c.unsigned_value-unsigned.result c.requires.room
    (omega (arith, c.if-unsigned-lt32.false)) c.if-unsigned-lt1024.true)
    ∙ ap (λ (u : ℕ). take c.args.at c.args.out.now ++ unsigned_spelling u) e

pub returns-clause-text : goal.returns-clause-text
unfolding spelling
returns-clause-text c =
    let e = c.unsigned_value-unsigned.ensures ∙ ap unsigned_of (to_z-of_z w32 c.args.n c.ranges.n) in
    c.spell_unsigned.ensures.text ∙ ap (λ (u : ℕ). take c.args.at c.args.out.now ++ unsigned_spelling u) e
