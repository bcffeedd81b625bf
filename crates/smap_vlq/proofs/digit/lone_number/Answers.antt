use Rattle.std.proofs.Common.{◌≡◌, ◌∙◌, ℕ, ◌<◌, ℤ, pos, ◌-ℤ◌, get_or, arith, ap, rules}
use Rattle.std.proofs.lemmas.Int.{to_z-of_z, to_z_pos}
use mir.Syntax.{w32}
use mir.Val.{SFits, of_z, to_z}
use Rattle.smap_vlq.specs.declared.digit.TheConstants.{LONE_NUMBERS}
use Rattle.smap_vlq.proofs.DigitLemmas.{is_lone, small_number}
use Rattle.smap_vlq.proofs.digit.lone_number.Goals as goal

pub returns : goal.returns
returns c =
    let n : ℕ = get_or LONE_NUMBERS c.args.byte 0 in
    let k = is_lone c.args.byte (omega arith) c.if-number-eq0.false in
    let small : n < 32 = small_number c.args.byte (omega arith) in
    let read : to_z w32 n ≡ pos n = to_z_pos w32 n (omega arith) in
    let fits : SFits w32 (pos n -ℤ pos 16) = search (rules, arith) in (
      k.0,
      k.1,
      k.2,
      k.3,
      ap (λ (z : ℤ). to_z w32 (of_z w32 (z -ℤ pos 16))) read
          ∙ to_z-of_z w32 (pos n -ℤ pos 16) fits ∙ k.4,
    )
