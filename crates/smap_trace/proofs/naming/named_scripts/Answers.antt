use Rattle.std.proofs.Common.{◌≡◌, ◌≢◌, ◌<◌, ◌≤◌, ◌++◌, take, rules, arith, true, length, length-take}
use Rattle.smap_io.specs.Device.{has_ended}
use Rattle.smap_io.proofs.ReadingLemmas.{Gave-then}
use Rattle.smap_trace.proofs.NamingLemmas.{after_piece, at_the_end}
use Rattle.smap_trace.proofs.naming.named_scripts.Goals as goal

pub returns-then-n-eq0-clause-names : goal.returns-then-n-eq0-clause-names
returns-then-n-eq0-clause-names g c =
    let s = c.pieces.invariant.so_far in
    let room : 0 < length c.read.new.buf = search rules in
    let ended : has_ended c.read.new.self ≡ true = search rules in
    let p = at_the_end g.R.Read.remaining c.args.reader.now c.pieces.reader c.read.new.self c.pieces.counter
    c.pieces.line.items c.pieces.named c.take_last.new.so_far s
    (rw c.if-n-eq0.true at c.in-Ok.ensures.bytes.0)
    (rw c.deref.ensures.value at c.in-Ok-take_last.ensures) in (
      s.whole ++ c.pieces.line.items,
      p.0,
      (ended, c.in-Ok.ensures.bytes.1 c.if-n-eq0.true room),
      p.1,
      search rules,
    )

pub returns-in_default-take_piece-clause-names : goal.returns-in_default-take_piece-clause-names
returns-in_default-take_piece-clause-names g c =
    let s = c.pieces.invariant.so_far in
    let read = s.whole ++ c.pieces.line.items in
    let piece = take c.in-Ok.n c.read.new.buf in (
      read ++ piece,
      Gave-then g.R.Read.remaining c.args.reader.now c.pieces.reader c.read.new.self read piece s.lines.gave
          c.in-Ok.ensures.bytes.0,
      search rules,
    )

pub pieces-preserved : goal.pieces-preserved
pieces-preserved g c =
    let piece = take c.in-Ok.n c.read.new.buf in
    let within : c.in-Ok.n ≤ length c.read.new.buf = search rules in
    let some : c.in-Ok.n ≢ 0 = search rules in
    let len : length piece ≡ c.in-Ok.n = omega (arith, length-take c.in-Ok.n c.read.new.buf, within) in
    record {
      reads = search rules;
      open_still = search rules;
      count = search rules;
      in_time = search rules;
      read_on = search rules;
      so_far = after_piece g.R.Read.remaining c.args.reader.now c.pieces.reader c.read.new.self
          c.pieces.counter c.pieces.line.items c.pieces.named c.take_piece.new.so_far
          c.pieces.invariant.so_far piece c.take_piece.new.line.items c.in-Ok.ensures.bytes.0
          (omega (arith, some, len)) c.in-Ok-take_piece.ensures.rest c.in-Ok-take_piece.ensures.takes;
    }
