use Rattle.std.proofs.Common.{◌≡◌, ◌<◌, ◌+◌, ◌-◌, ◌^◌, sum, length, arith, ℕ, map, replicate, refl}
use Rattle.std.proofs.Common.{◌∷◌, [], ◌++◌}
use Rattle.std.specs.Char.{len_utf8}
use Rattle.std.specs.Str.{chars}
use Rattle.std.specs.Str.Iter.{chars_rest}
use Rattle.std.proofs.lemmas.List.{take_at, length-replicate}
use Rattle.std.proofs.lemmas.Str.{chars_past_char, IsUtf8-past_char, len_utf8_bounds}
use Rattle.smap_record.specs.Record.{record_of}
use Rattle.smap_view_page.specs.Bytes.{byte_owners, mark_length, owner_at, positions, spots, origin}
use Rattle.smap_view_page.specs.Cursors.{start_of}
use Rattle.smap_view_page.specs.Owners.{owner_count}
use Rattle.smap_view_page.proofs.OwnerLemmas.{char_taken, sum_zeros, first_left, fewer_left, none_left}
use Rattle.smap_view_page.proofs.ReachLemmas.{at_start, nothing, one_taken}
use Rattle.smap_view_page.proofs.measuring.byte_counts.Goals as goal

pub loop-c-init : goal.loop-c-init
loop-c-init c =
    let r = record_of c.args.map.now in
    let text = c.args.text.now in
    let script = c.unmarked-script.result.now in
    let old = c.in_ok-bytes.bytes.items in
    let new = c.add.new.bytes in
    let free = c.free_of-free.result in
    let size = free + 1 in
    let count = c.saturating_sub.result in
    let none : sum old ≡ 0 = rw c.in_ok-bytes.ensures (sum_zeros size) in
    let places : length old ≡ size = rw c.in_ok-bytes.ensures (length-replicate {A = ℕ} size 0) in
    let long : length new ≡ c.in_ok-bytes.bytes.len = omega arith in
    let below : free < length old = omega (arith, places) in
    let fits : sum old + count < 2 ^ 64 = omega (arith, none) in
    let mark : count ≡ mark_length (chars text) = omega arith in
    let added = rw c.deref_mut.ensures.value at c.add.ensures.place in
    let grown : sum new ≡ sum old + count = (rw c.deref_mut.ensures.value at c.add.ensures.sum) below fits in
    let rest : chars_rest c.into_iter-c-iterator.result ≡ script =
    rw c.into_iter-c-iterator.ensures.into_iter_gives c.chars-c-items.ensures.rest in
    let later = map (owner_at r) (positions origin (chars script)) in
    let all : replicate count free ++ later ≡ byte_owners r text =
    rw (mark, c.free_of-free.ensures, c.unmarked-script.ensures.chars) refl in
    rw (take_at new _ c.in_ok-bytes.bytes.len long, rest) (record {
      utf8 = c.unmarked-script.utf8;
      long = omega (arith, long, places);
      owner = omega arith;
      line = omega arith;
      column = omega arith;
      reached = at_start r free c.free_of-free.ensures;
      total = omega (arith, none, grown);
      left = first_left old new (byte_owners r text) later size free count (2 ^ 64 - 1) c.in_ok-bytes.ensures
          added (omega arith) (omega (arith, fits)) all;
    })

pub loop-c-preserved : goal.loop-c-preserved
loop-c-preserved c =
    let r = record_of c.args.map.now in
    let old = c.loop-c.bytes.items in
    let new = c.taken-cursor.new.bytes in
    let before = chars_rest c.loop-c.c-iterator in
    let later = chars_rest c.next.new.self in
    let d = c.in-Some.c in
    let split = c.in-Some.ensures.steps.0 in
    let step = char_taken before later d split in
    let taken = chars_past_char before later d c.loop-c.invariant.utf8 split in
    let long : length new ≡ c.loop-c.bytes.len = omega arith in
    let grown : sum new ≡ sum old + len_utf8 d =
    rw c.deref_mut-in-loop-c.ensures.value at c.taken-cursor.ensures.sum in
    let added = rw c.deref_mut-in-loop-c.ensures.value at c.taken-cursor.ensures.added in
    let parts = one_taken r c.loop-c.cursor c.taken-cursor.result d before later taken
    (c.taken-cursor.ensures.place (chars later)) in
    let least = len_utf8_bounds d in
    rw (take_at new _ c.loop-c.bytes.len long) (record {
      utf8 = IsUtf8-past_char before later d c.loop-c.invariant.utf8 split;
      long = omega (arith, long);
      owner = c.taken-cursor.ensures.owner;
      line = omega (arith, step, least.0);
      column = omega (arith, step);
      reached = c.taken-cursor.ensures.reached;
      total = omega (arith, step, grown);
      left = fewer_left old new (map (owner_at r) (spots (start_of c.loop-c.cursor (d ∷ [])) d))
          (map (owner_at r) (positions (start_of c.taken-cursor.result (chars later)) (chars later)))
          (byte_owners r c.args.text.now) (omega (arith, long)) added (rw parts at c.loop-c.invariant.left);
    })

pub returns-clause-counts : goal.returns-clause-counts
returns-clause-counts c =
    let r = record_of c.args.map.now in
    let rest = chars_rest c.loop-c.c-iterator in
    none_left c.loop-c.bytes.items (byte_owners r c.args.text.now) (owner_count r) c.loop-c.invariant.long
    (rw (nothing rest c.in-None.ensures.steps.0.0) at c.loop-c.invariant.left)
