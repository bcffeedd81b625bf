use Rattle.smap_map_files.proofs.map_text.MapText.mended.Goals as goal

pub returns-in-Ok-Some : goal.returns-in-Ok-Some
returns-in-Ok-Some c = record {
  text = c.in-Mended.text;
  repairs = c.in-Mended.repairs;
  answered = rw c.in-Mended.is at c.in_ok-text.ensures;
  reads = rw (c.in-Ok-Some.field-0-is, c.deref.ensures.value) at c.in-Ok-Some.ensures;
}
