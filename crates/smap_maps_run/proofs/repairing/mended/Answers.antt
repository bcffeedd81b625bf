use Rattle.std.proofs.Common.{refl}
use Rattle.smap_maps_run.proofs.repairing.mended.Goals as goal

pub returns-in-Ok : goal.returns-in-Ok
returns-in-Ok c = record {
  text = c.in-Ok-Mended.new;
  repairs = c.in-Ok-Mended.repairs;
  answered = rw c.in-Ok-Mended.field-0-is at c.in-Ok-Mended.ensures;
  text_is = refl;
}
