use Rattle.std.proofs.Common.{ℕ, Option, ap, false, nat_le}
use Rattle.std.specs.Option.{option_map_or}
use Rattle.smap_command_line.proofs.NumberLemmas.{no_number, number_read}
use Rattle.smap_command_line.proofs.values.is_up_to.Goals as goal

pub returns-in-Ok : goal.returns-in-Ok
returns-in-Ok c = ap (λ (o : Option ℕ). option_map_or (λ n. nat_le n c.args.most) o false)
    (number_read 64 _ c.args.text.now c.in-Ok.ensures.value.0)

pub returns-in-Err : goal.returns-in-Err
returns-in-Err c = ap (λ (o : Option ℕ). option_map_or (λ n. nat_le n c.args.most) o false)
    (no_number 64 c.args.text.now c.in-Err.ensures.value.0)
