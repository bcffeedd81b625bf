use Rattle.std.proofs.Common.{◌≡◌, ◌+◌, ◌*◌, ◌<◌, ◌≤◌, length, map, sum}
use Rattle.std.specs.Str.{chars, IsUtf8}
use Rattle.std.specs.Str.Iter.{chars_rest}
use Rattle.smap_record.specs.Record.{record_of}
use Rattle.smap_view_page.specs.Bytes.{byte_owners, owner_at, positions}
use Rattle.smap_view_page.specs.Cursors.{start_of, HasReached}
use Rattle.smap_view_page.specs.Owners.{owner_count}
use Rattle.smap_view_page.proofs.OwnerLemmas.{AreLeft}
use Rattle.smap_view_page.proofs.measuring.byte_counts.Given as goal

abbrev pub invariant-loop-c : goal.invariant-loop-c
invariant-loop-c l = record {
  utf8 : IsUtf8 (chars_rest l.c-iterator);
  long : length l.bytes.items ≡ owner_count (record_of l.map);
  owner : l.cursor.owner < owner_count (record_of l.map);
  line : l.cursor.line + 2 * length (chars_rest l.c-iterator) ≤ 2 * length l.text;
  column : l.cursor.column + length (chars_rest l.c-iterator) ≤ length l.text;
  reached : HasReached (record_of l.map) l.cursor;
  total : sum l.bytes.items + length (chars_rest l.c-iterator) ≡ length l.text;
  left : AreLeft l.bytes.items (map (owner_at (record_of l.map)) (positions
      (start_of l.cursor (chars (chars_rest l.c-iterator))) (chars (chars_rest l.c-iterator))))
      (byte_owners (record_of l.map) l.text);
}
