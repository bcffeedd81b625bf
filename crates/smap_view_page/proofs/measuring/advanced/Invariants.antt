use Rattle.std.proofs.Common.{◌≡◌, ◌<◌}
use Rattle.smap_record.specs.Record.{record_of}
use Rattle.smap_view_page.specs.Cursors.{HasReached}
use Rattle.smap_view_page.specs.Owners.{owner_count}
use Rattle.smap_view_page.proofs.measuring.advanced.Given as goal

abbrev pub invariant-loop-number : goal.invariant-loop-number
invariant-loop-number l = record {
  owner : l.cursor.owner < owner_count (record_of l.map);
  next : l.cursor.next ≡ l.number;
  line : l.cursor.line ≡ l.initial.cursor.line;
  column : l.cursor.column ≡ l.initial.cursor.column;
  reached : HasReached (record_of l.map) l.cursor;
}
