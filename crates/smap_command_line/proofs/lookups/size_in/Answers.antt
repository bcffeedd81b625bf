use Rattle.smap_command_line.proofs.NumberLemmas.{no_number, number_read}
use Rattle.smap_command_line.proofs.lookups.size_in.Goals as goal

pub returns-in-Ok : goal.returns-in-Ok
returns-in-Ok c = number_read 64 _ c.args.text.now c.in-Ok.ensures.value.0

pub returns-in-Err : goal.returns-in-Err
returns-in-Err c = no_number 64 c.args.text.now c.in-Err.ensures.value.0
